-- A result whose error was mapped (`map_err`), and what `?` makes of it: the values stay, and an error is what it is
-- mapped to.
use Rattle.std.proofs.Common.{◌≡◌, refl, sym, ◌∙◌, Result, Ok, Err}
use Rattle.std.specs.Result.{MatchResult, IsErrAnd}

module _ {T E D : Type 0} {r : Result T E} {s : Result T D} (Q : E → D → Type 0)
    (cases : MatchResult r (λ x. s ≡ Ok x) (λ e. IsErrAnd s (Q e))) where
  pub was_ok : {x : T} → s ≡ Ok x → r ≡ Ok x
  was_ok {x} h = go r s cases h
    where
      go : (r : Result T E) (s : Result T D) → MatchResult r (λ x. s ≡ Ok x) (λ e. IsErrAnd s (Q e)) → s ≡ Ok x → r ≡ Ok x
      go (Ok y) s m h = let z : ◌≡◌ {A = Result T D} (Ok y) (Ok x) = sym m ∙ h in cc
      go (Err e) (Ok y) m h = absurd m
      go (Err e) (Err d) m h = absurd (cc)

  pub was_err : {d : D} → s ≡ Err d → (e : E) × (r ≡ Err e) × Q e d
  was_err {d} h = go r s cases h
    where
      go : (r : Result T E) (s : Result T D) → MatchResult r (λ x. s ≡ Ok x) (λ e. IsErrAnd s (Q e)) → s ≡ Err d
          → (e : E) × (r ≡ Err e) × Q e d
      go (Ok y) s m h = let z : ◌≡◌ {A = Result T D} (Ok y) (Err d) = sym m ∙ h in absurd (cc)
      go (Err e) (Ok y) m h = absurd m
      go (Err e) (Err c) m h = let z : c ≡ d = cc in (e, refl, rw (← z) m)

  -- such an error, as `?` sends it out in z
  pub sent : {X : Type 0} {d : D} (z : Result X D) → s ≡ Err d → IsErrAnd z (λ y. y ≡ d)
      → (e : E) × (r ≡ Err e) × (z ≡ Err d) × Q e d
  sent (Ok x) h m = absurd m
  sent (Err y) h m = let w = was_err h in (w.0, w.1, rw m, w.2)
