-- Some rule fits every state and call.
use Prim.Native.Nat.{ℕ, ◌<◌}
use mathlib.Core.Path.{◌≡◌, refl}
use mathlib.Core.List.{List}
use mathlib.Core.Option.{Option, none, some}
use Rattle.ground.proofs.Booleans.{by_less, by_equal}
use Rattle.form.specs.Outcome.{Verdict, right, wrong}
use Rattle.sheet.specs.SheetText.{read_sheet}
use Rattle.memory.specs.Layout.{most_hulls, desks}
use Rattle.memory.specs.Formed.{most_edits}
use Rattle.register.specs.Calls.{Call, new_hull, open_hull, work, save, drop_draft, ask}
use Rattle.history.specs.Replies.{Reply}
use Rattle.history.proofs.Model.{Draft, State, edits_of}
use Rattle.history.proofs.ModelStep.{step}
use Rattle.history.proofs.Rules.{Idle, desk_unknown, draft_missing, Refuses, no_room, open_unknown, open_high}
use Rattle.history.proofs.Rules.{work_idle, save_idle, save_spent, save_stale, drop_idle, ask_unknown}
use Rattle.history.proofs.Rules.{Way, new_enters, new_unread, open_done, work_taken, save_done, drop_done}
use Rattle.history.proofs.Rules.{ask_done, refused}
use Rattle.history.proofs.Rules.{way_taken}

record Fits (s : State) (c : Call) : Type 0 where
  state : State
  reply : Reply
  rule : Way s c state reply

module _ {s : State} where
  fitted : {c : Call} {t : State} {r : Reply} → Way s c t r → Fits s c
  fitted p = record { state = _; reply = _; rule = p }

  find_new : (t : List ℕ) (r : Verdict (List ℕ))
      → s.register.entered < most_hulls
      → read_sheet t ≡ r
      → Fits s (new_hull t)
  find_new t (right r) p e = fitted (new_enters r p e)
  find_new t (wrong n line byte) p e = fitted (new_unread n line byte p e)

  find_draft : (d : ℕ) {c : Call}
      → ((n : ℕ) → Idle s d n → Refuses s c n)
      → ((x : Draft) → d < desks → s.draft d ≡ some x → Fits s c)
      → Fits s c
  find_draft d {c} idle f =
      by_less d desks (λ p. go p (s.draft d) refl) (λ p. fitted (refused (idle _ (desk_unknown p))))
    where
      go : d < desks → (o : Option Draft) → s.draft d ≡ o → Fits s c
      go p none e = fitted (refused (idle _ (draft_missing p e)))
      go p (some x) e = f x p e

some_way : (s : State) (c : Call) → Fits s c
some_way s (new_hull t) =
    by_less s.register.entered most_hulls (λ p. find_new t (read_sheet t) p refl) (λ p. fitted (refused (no_room p)))
some_way s (open_hull d h) =
    by_less d desks
    (λ p. by_less h s.register.entered (λ q. fitted (open_done p q)) (λ q. fitted (refused (open_unknown p q))))
    (λ p. fitted (refused (open_high p)))
some_way s (work d w) = find_draft d (λ n p. work_idle p) (λ x p q. fitted (work_taken x p q))
some_way s (save d) =
    find_draft d (λ n p. save_idle p)
    (λ x p q.
    by_equal (edits_of s x) x.opening
    (λ e. by_equal (edits_of s x) most_edits (λ n. fitted (refused (save_spent x p q e n)))
    (λ n. fitted (save_done x p q e n))) (λ e. fitted (refused (save_stale x p q e))))
some_way s (drop_draft d) = find_draft d (λ n p. drop_idle p) (λ x p q. fitted (drop_done x p q))
some_way s (ask h q) =
    by_less h s.register.entered (λ p. fitted (ask_done p)) (λ p. fitted (refused (ask_unknown p)))

-- what every rule has, every step has
pub by_ways : (s : State) (c : Call) (P : State → Reply → Type 0)
    → ((t : State) (r : Reply) → Way s c t r → P t r)
    → P (step s c).state (step s c).reply
by_ways s c P f = let o = some_way s c in rw (way_taken s o.rule) (f o.state o.reply o.rule)
