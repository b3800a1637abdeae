-- A value that may be none, found or refused: `ok_or` and then `?`.
use Rattle.std.proofs.Common.{◌≡◌, refl, sym, ◌∙◌, Option, Some, None, Result, Ok, Err}
use Rattle.std.specs.Option.{ok_or}

module _ {T E : Type 0} {o : Option T} {s : Result T E} (err : E) (e : s ≡ ok_or o err) where
  pub found : {x : T} → s ≡ Ok x → o ≡ Some x
  found {x} h = go o (sym e ∙ h)
    where
      go : (o : Option T) → ok_or o err ≡ Ok x → o ≡ Some x
      go (Some y) m = cc
      go None m = cc

  pub lacked : {d : E} → s ≡ Err d → (o ≡ None) × (d ≡ err)
  lacked {d} h = go o (sym e ∙ h)
    where
      go : (o : Option T) → ok_or o err ≡ Err d → (o ≡ None) × (d ≡ err)
      go (Some y) m = cc
      go None m = (refl, cc)
