-- Saves in the model, by the history alone: those that are due are taken, and no others. A hull has had no accepted
-- save since a desk opened it exactly when its count of accepted saves is what it was then.
use Prim.Native.Nat.{ℕ, suc, ◌<◌, ◌≤◌}
use native.Mathlib.Omega.{arith}
use mathlib.Core.Path.{◌≡◌, refl, sym, ap, ◌∙◌}
use mathlib.Core.Bool.{Bool, true, false, cond, false≢true}
use mathlib.Core.List.{List, [], ◌∷◌, map}
use mathlib.Core.Option.{some}
use Rattle.ground.proofs.Booleans.{false_true}
use Rattle.answers.specs.Answer.{Count}
use Rattle.memory.specs.Formed.{most_edits}
use Rattle.register.specs.Calls.{Call, save}
use Rattle.history.specs.Runs.{Event, call}
use Rattle.history.specs.History.{Role, role, block}
use Rattle.history.specs.Told.{Opening, opening, is_save_of, saves_of, quiet_since}
use Rattle.history.specs.Replies.{Reply, says, accepted}
use Rattle.history.specs.Demand.{Due}
use Rattle.history.proofs.Tools.{none≢some, some_inj}
use Rattle.history.proofs.WholeBlock.{Known, an_open, some_work, vain_save, an_end, another, known, saveless}
use Rattle.history.proofs.Model.{Draft, State, after_save, edits_of}
use Rattle.history.proofs.ModelStep.{step, state_of, events_of}
use Rattle.history.proofs.Rules.{Way, save_done, refused}
use Rattle.history.proofs.SomeRule.{by_ways}
use Rattle.history.proofs.AllReady.{Drafts, drafts}
use Rattle.history.proofs.HistoryTells.{draft_of, draft_from, Tells, drawn}
use Rattle.history.proofs.TellsEvery.{history_tells}
use Rattle.history.proofs.Moves.{Made}
use Rattle.history.proofs.Still.{hull_stood}

-- ---- no save since an open, walked or counted

-- a count that was k is n: it stood still, and it was quiet; or it moved, and it was not
data Since (quiet : Bool) (n k : ℕ) : Type 0 where
  still : quiet ≡ true → n ≡ k → Since quiet n k
  moved : quiet ≡ false → k < n → Since quiet n k

counted : {q : Bool} {n k : ℕ} (b : Bool) → Since q n k → Since (cond b false q) (cond b (suc n) n) k
counted true (still q e) = moved refl (omega arith)
counted true (moved q l) = moved refl (omega arith)
counted false s = s

abbrev SinceOpen : ℕ → ℕ → List Event → Opening → Type 0
SinceOpen d h past o = Since (quiet_since d h past) (saves_of h past) (saves_of h o.before)

since_step : {d : ℕ} {e : Event} {s : Role} (h : ℕ) (past : List Event) (o : Opening)
    → Known d e s
    → role d e ≡ s
    → opening d (e ∷ past) ≡ some o
    → (opening d past ≡ some o → SinceOpen d h past o) → SinceOpen d h (e ∷ past) o
unfolding opening quiet_since saves_of is_save_of
since_step h past o (an_open a) p q f =
    still (rw (p, quiet_since)) (ap (λ (x : Opening). saves_of h x.before) (some_inj (rw (p, opening) at q)))
since_step h past o some_work p q f = rw (p, quiet_since) (f (rw (p, opening) at q))
since_step h past o (vain_save a) p q f = rw (p, quiet_since, a) (f (rw (p, opening) at q))
since_step h past o an_end p q f = absurd (none≢some (rw (p, opening) at q))
since_step h past o (another e s c) p q f = rw (p, quiet_since) (counted (is_save_of h e past) (f (rw (p, opening) at q)))

since : (d h : ℕ) (past : List Event) (o : Opening) → opening d past ≡ some o → SinceOpen d h past o
unfolding opening
since d h [] o q = absurd (none≢some q)
since d h (e ∷ past) o q = since_step h past o (known d e) refl q (since d h past o)

module _ (d h : ℕ) (past : List Event) (o : Opening) (e : opening d past ≡ some o) where
  pub still_quiet : saves_of h past ≡ saves_of h o.before → quiet_since d h past ≡ true
  still_quiet q = elim (since d h past o e) [ still a b ↦ a | moved a l ↦ absurd (omega arith) ]

  pub quiet_still : quiet_since d h past ≡ true → saves_of h past ≡ saves_of h o.before
  quiet_still q = elim (since d h past o e) [ still a b ↦ b | moved a l ↦ absurd (false≢true (sym a ∙ q)) ]

-- ---- accepted only where it is due, and with no refused save among the calls taken

-- no hull has had more than 65,535 saves
abbrev Few : State → Type 0
Few s = (h : ℕ) → h < s.register.entered → (s.register.hull h).edits ≤ most_edits

due : (s : State) (past : List Event) (d : ℕ) {t : State} {r : Reply}
    → Way s (save d) t r
    → Tells s past
    → Drafts s past
    → Few s
    → accepted r ≡ true
    → Due d past × (saveless (block d past) ≡ true)
due s past d (save_done y p q u n) f ready few a =
    let z = drawn (block d past) (opening d past) y (sym (f.drafts d) ∙ q) in
    let o : Opening = z.from in
    let h : o.hull ≡ y.hull = ap (λ (x : Draft). x.hull) z.draft in
    let k : saves_of o.hull o.before ≡ y.opening = ap (λ (x : Draft). x.opening) z.draft in
    let e : edits_of s y ≡ saves_of o.hull past = rw h (f.edits y.hull) in
    let r = ready d y q in (
      record {
        draft = o;
        holds = z.is;
        quiet = still_quiet d o.hull past o z.is (sym e ∙ u ∙ sym k);
        room = omega (arith, few y.hull r.hull, n, e);
      },
      r.clean u n,
    )
due s past d (refused p) f ready few a = false_true a

pub save_only : (cs : List Call) (d : ℕ)
    → Few (state_of cs)
    → accepted (step (state_of cs) (save d)).reply ≡ true
    → Due d (events_of cs) × (saveless (block d (events_of cs)) ≡ true)
save_only cs d few =
    by_ways (state_of cs) (save d)
    (λ t r. accepted r ≡ true → Due d (events_of cs) × (saveless (block d (events_of cs)) ≡ true))
    (λ t r p. due (state_of cs) (events_of cs) d p (history_tells cs) (drafts cs) few)

-- ---- where it is due, the rule that it takes

pub record Saved (s : State) (past : List Event) (d : ℕ) (o : Opening) : Type 0 where
  pub rule :
      let x = draft_of (block d past) o in Way s (save d) (after_save s d x) (says (Count (suc (edits_of s x))))
  pub count : edits_of s (draft_of (block d past) o) ≡ saves_of o.hull past
  pub known : o.hull < s.register.entered
  pub made : Made (block d past) (s.register.hull o.hull).sheet (draft_of (block d past) o).sheet
  pub stood : s.register.hull o.hull ≡ (state_of (map call o.before)).register.hull o.hull

pub save_taken : (cs : List Call) (d : ℕ) (o : Opening)
    → opening d (events_of cs) ≡ some o
    → quiet_since d o.hull (events_of cs) ≡ true
    → saves_of o.hull (events_of cs) < most_edits
    → Saved (state_of cs) (events_of cs) d o
save_taken cs d o e q l =
    let past : List Event = events_of cs in
    let f : Tells (state_of cs) past = history_tells cs in
    let y : Draft = draft_of (block d past) o in
    let x : (state_of cs).draft d ≡ some y = f.drafts d ∙ ap (draft_from (block d past)) e in
    let n : edits_of (state_of cs) y ≡ saves_of o.hull past = f.edits o.hull in
    let r = drafts cs d y x in
    let quiet = quiet_still d o.hull past o e q in
    let left : edits_of (state_of cs) y ≡ most_edits → ⊥ = λ k. omega (arith, n, k) in
    record {
      rule = save_done y r.desk x (n ∙ quiet) left;
      count = n;
      known = r.hull;
      made = r.made (n ∙ quiet) left;
      stood = hull_stood cs d o e quiet;
    }
