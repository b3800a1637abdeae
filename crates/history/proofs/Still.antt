-- A hull whose edit number stands has stood: so a hull that a save finds unsaved since its draft was opened is as it
-- was then.
use Prim.Native.Nat.{ℕ, ◌≤◌, ◌<◌}
use native.Mathlib.Omega.{arith}
use native.Mathlib.Nat.{le_refl, le_trans}
use mathlib.Core.Path.{◌≡◌, refl, sym, ap, ◌∙◌}
use mathlib.Core.Bool.{Bool, true, false}
use mathlib.Core.List.{List, [], ◌∷◌, ◌++◌, map}
use mathlib.Core.Option.{some}
use lib.ListN.{length}
use borrow.Author.Tests.{eq-eqb, ne_eqb}
use Rattle.ground.proofs.Booleans.{by_equal, false_true}
use Rattle.register.specs.Calls.{Call, open_hull}
use Rattle.history.specs.Replies.{Reply, accepted}
use Rattle.history.specs.Runs.{Event, ◌⇒◌, call}
use Rattle.history.specs.Told.{Opening, opening, saves_of}
use Rattle.history.proofs.WholeBlock.{block_whole}
use Rattle.history.proofs.Model.{Register, State}
use Rattle.history.proofs.ModelStep.{state_of, events_of}
use Rattle.history.proofs.Rules.{Way, new_enters, new_unread, open_done, work_taken, save_done, drop_done}
use Rattle.history.proofs.Rules.{ask_done, refused}
use Rattle.history.proofs.SomeRule.{by_ways}
use Rattle.history.proofs.Serial.{calls_append}
use Rattle.history.proofs.TellsEvery.{its_calls, history_tells}

-- ---- hull h from R to Q

record Grows (h : ℕ) (R Q : Register) : Type 0 where
  more : R.entered ≤ Q.entered
  edits : (R.hull h).edits ≤ (Q.hull h).edits
  same : (Q.hull h).edits ≡ (R.hull h).edits → Q.hull h ≡ R.hull h

stays : (h : ℕ) (R : Register) → Grows h R R
stays h R = record { more = le_refl _; edits = le_refl _; same = λ e. refl }

grow_step : {s : State} {c : Call} {t : State} {r : Reply} (h : ℕ)
    → h < s.register.entered
    → Way s c t r
    → Grows h s.register t.register
grow_step {s} h l (new_enters r p e) =
    let n = ne_eqb h s.register.entered (λ q. omega arith) in
    record { more = omega arith; edits = rw n (le_refl _); same = rw n (λ q. refl) }
grow_step {s} h l (new_unread n line byte p e) = stays h s.register
grow_step {s} h l (open_done p q) = stays h s.register
grow_step {s} h l (work_taken y p q) = stays h s.register
grow_step {s} h l (save_done y p q u n) =
    by_equal h y.hull
    (λ e.
    let same = eq-eqb h y.hull e in
    record { more = le_refl _; edits = rw (same, e) (omega arith); same = rw (same, e) (λ q. absurd (omega arith)) })
    (λ e.
    let not = ne_eqb h y.hull e in
    record { more = le_refl _; edits = rw not (le_refl _); same = rw not (λ q. refl) })
grow_step {s} h l (drop_done y p q) = stays h s.register
grow_step {s} h l (ask_done p) = stays h s.register
grow_step {s} h l (refused p) = stays h s.register

grow_more : (h : ℕ) {R Q S : Register} → Grows h R Q → Grows h Q S → Grows h R S
grow_more h g k =
    record {
      more = le_trans g.more k.more;
      edits = le_trans g.edits k.edits;
      same = λ e.
          let p = g.edits in
          let q = k.edits in
          k.same (omega arith) ∙ g.same (omega arith);
    }

grow_run : (h : ℕ) (newer older : List Call)
    → h < (state_of older).register.entered
    → Grows h (state_of older).register (state_of (newer ++ older)).register
unfolding state_of
grow_run h [] older l = stays h _
grow_run h (c ∷ newer) older l =
    let g = grow_run h newer older l in
    grow_more h g
    (by_ways (state_of (newer ++ older)) c (λ t r. Grows h (state_of (newer ++ older)).register t.register)
    (λ t r. grow_step h (omega (arith, g.more))))

-- ---- what a history has before an event is a history

abbrev rest : List Event → List Event
rest [] = []
rest (e ∷ es) = es

abbrev taken : List Event → Bool
taken [] = false
taken ((c ⇒ r) ∷ es) = accepted r

older_run : (newer older : List Event) (cs : List Call)
    → events_of cs ≡ newer ++ older
    → events_of (map call older) ≡ older
unfolding events_of
older_run [] older cs e = rw (← e) (ap events_of (its_calls cs))
older_run (x ∷ newer) older [] e = absurd (let z = ap length e in omega arith)
older_run (x ∷ newer) older (c ∷ cs) e = older_run newer older cs (ap rest e)

known_hull : {s : State} {d h : ℕ} {t : State} {r : Reply}
    → Way s (open_hull d h) t r
    → accepted r ≡ true
    → h < s.register.entered
known_hull (open_done p q) a = q
known_hull (refused p) a = false_true a

-- ---- so the hull of a draft, unsaved since

pub hull_stood : (cs : List Call) (d : ℕ) (o : Opening)
    → opening d (events_of cs) ≡ some o
    → saves_of o.hull (events_of cs) ≡ saves_of o.hull o.before
    → (state_of cs).register.hull o.hull ≡ (state_of (map call o.before)).register.hull o.hull
unfolding events_of
hull_stood cs d o e n =
    let h : ℕ = o.hull in
    let before : List Call = map call o.before in
    let w = block_whole d (events_of cs) o e in
    let run = older_run w.newer ((open_hull d h ⇒ w.its_reply) ∷ o.before) cs w.splits in
    let there : h < (state_of before).register.entered =
    by_ways (state_of before) (open_hull d h) (λ t r. accepted r ≡ true → h < (state_of before).register.entered)
    (λ t r p. known_hull p) (ap taken run ∙ w.made_it) in
    let opened = grow_run h (open_hull d h ∷ []) before there in
    let since = grow_run h (map call w.newer) (open_hull d h ∷ before) (omega (arith, opened.more, there)) in
    let is : map call w.newer ++ (open_hull d h ∷ before) ≡ cs =
    sym (sym (its_calls cs) ∙ ap (map call) w.splits ∙ calls_append w.newer _) in
    let then : ((state_of before).register.hull h).edits ≡ saves_of h o.before =
    (history_tells before).edits h ∙ ap (saves_of h) (ap rest run) in
    let now : ((state_of cs).register.hull h).edits ≡ saves_of h (events_of cs) = (history_tells cs).edits h in
    rw is at (grow_more h opened since).same (now ∙ n ∙ sym then)
