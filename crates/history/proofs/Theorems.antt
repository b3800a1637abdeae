-- DEMAND 3: the theorems. Of any memory m of the right size, fresh start on it, and any list of calls after it, newest
-- first.
use Prim.Native.Nat.{ℕ, ◌≤◌, ◌<◌}
use mathlib.Core.Path.{◌≡◌, refl, sym, ap, ◌∙◌}
use mathlib.Core.Bool.{Bool, true}
use mathlib.Core.List.{List, ◌∷◌, map}
use mathlib.Core.Logic.{◌↔◌}
use lib.ListN.{length}
use borrow.Author.Tests.{ne_eqb}
use Rattle.memory.specs.Layout.{register_words, hull_count, edit, hull_sheet}
use Rattle.memory.specs.Formed.{most_edits, formed}
use Rattle.memory.proofs.Sound
use Rattle.register.specs.Calls.{Ask, Call, save}
use Rattle.history.specs.Replies.{Reply, reply, accepted}
use Rattle.history.specs.Runs.{call, after, history}
use Rattle.history.specs.History.{block, serial}
use Rattle.history.specs.Told.{Opening, saves_of}
use Rattle.history.specs.Demand.{Due, SaveDoes, Gives, Demand}
use Rattle.history.proofs.Tools.{self}
use Rattle.history.proofs.WholeBlock.{Whole, block_whole, saveless}
use Rattle.history.proofs.Model.{Hull, State, Outcome}
use Rattle.history.proofs.ModelStep.{state_of, events_of}
use Rattle.history.proofs.Rules.{way_taken}
use Rattle.history.proofs.Replay.{state_by}
use Rattle.history.proofs.Serial.{serial_runs}
use Rattle.history.proofs.Shown.{shown_few, there_few, shown_number, shown_sheet, shown_weight}
use Rattle.history.proofs.RunsShown.{run_shows, run_replies, run_history}
use Rattle.history.proofs.TellsEvery.{history_tells}
use Rattle.history.proofs.RunsTold.{there, weights_told}
use Rattle.history.proofs.Saves.{Saved, save_only, save_taken}

module _ (m : List ℕ) (z : length m ≡ register_words) where
  -- Every run keeps the memory well formed: no call of it is refused with 1.
  pub run_formed : (cs : List Call) → formed (after m cs) ≡ true
  run_formed cs = (run_shows m z cs).ok

  -- Edit numbers count accepted saves.
  pub edits_count : (cs : List Call) (h : ℕ)
      → h < hull_count (after m cs)
      → edit (after m cs) h ≡ saves_of h (history m cs)
  edits_count cs h l =
      let S = run_shows m z cs in
      rw (run_history m z cs) (shown_number S (there_few S l) ∙ (history_tells cs).edits h)

  -- ---- (a) the exact rule for saves

  -- no edit number passes 65,535: the memory is well formed
  few : (cs : List Call) (h : ℕ) → h < (state_of cs).register.entered → ((state_of cs).register.hull h).edits ≤ most_edits
  few cs h l =
      let S = run_shows m z cs in
      rw (← shown_number S (shown_few S l)) ((Sound.sound (after m cs) S.ok).hulls h (rw S.counts l)).number

  -- A save by desk d that is due, of the draft opened as o says, does what demand 3 says.
  save_due_does : (cs : List Call) (d : ℕ) (o : Opening) → Saved (state_of cs) (events_of cs) d o
      → SaveDoes d o (history m cs) (after m (map call o.before)) (after m cs) (reply (after m cs) (save d)).answer
      (after m (save d ∷ cs))
  save_due_does cs d o y =
      let S = run_shows m z cs in
      let T = run_shows m z (save d ∷ cs) in
      let k = shown_few S y.known in
      let next = state_by cs y.rule in
      let known : o.hull < (state_of (save d ∷ cs)).register.entered = rw next y.known in
      record {
        answer = ap (λ (r : Reply). r.answer)
            (run_replies m z cs (save d) ∙ ap (λ (x : Outcome). x.reply) (way_taken (state_of cs) y.rule))
            ∙ rw (run_history m z cs, y.count) refl;
        number = rw (run_history m z cs) (shown_number T k ∙ rw (next, self, y.count) refl);
        sheet = rw (run_history m z cs, shown_sheet (run_shows m z (map call o.before)) k)
            (shown_sheet T k ∙ rw (next, self) refl);
        weight =
            let base : hull_sheet (after m (map call o.before)) o.hull
            ≡ ((state_of cs).register.hull o.hull).sheet =
            shown_sheet (run_shows m z (map call o.before)) k ∙ ap (λ (x : Hull). x.sheet) (sym y.stood) in
            rw (run_history m z cs, base, shown_weight S y.known, shown_weight T known, next, self)
            y.made.weight;
        hulls = T.counts ∙ ap (λ (s : State). s.register.entered) next ∙ sym S.counts;
        others = λ h l n. let j = there_few S l in let e = ne_eqb h o.hull n in (
          shown_number T j ∙ rw (next, e) (sym (shown_number S j)),
          (let there_still : h < (state_of (save d ∷ cs)).register.entered = rw next (there m z cs l) in
              shown_weight T there_still ∙ rw (next, e) (sym (shown_weight S (there m z cs l)))),
          shown_sheet T j ∙ rw (next, e) (sym (shown_sheet S j)),
        );
      }

  due_taken : (cs : List Call) (d : ℕ) (u : Due d (history m cs)) → Saved (state_of cs) (events_of cs) d u.draft
  due_taken cs d u =
      let e = run_history m z cs in
      save_taken cs d u.draft (rw e at u.holds) (rw e at u.quiet) (rw e at u.room)

  -- A save is accepted exactly when the history says that it is due.
  pub save_iff : (cs : List Call) (d : ℕ) → (accepted (reply (after m cs) (save d)) ≡ true) ↔ Due d (history m cs)
  save_iff cs d = (
    λ a. rw (run_history m z cs) (save_only cs d (few cs) (rw (run_replies m z cs (save d)) at a)).0,
    λ u. rw (save_due_does cs d u.draft (due_taken cs d u)).answer refl,
  )

  -- The accepted save answers the count of accepted saves, which the hull then has as its edit number, and the hull
  -- holds its sheet at the opening with the draft's accepted work done on it; every other hull is as it was.
  pub save_does : (cs : List Call) (d : ℕ) (u : Due d (history m cs))
      → SaveDoes d u.draft (history m cs) (after m (map call u.draft.before)) (after m cs)
      (reply (after m cs) (save d)).answer (after m (save d ∷ cs))
  save_does cs d u = save_due_does cs d u.draft (due_taken cs d u)

  -- The block of an accepted save is the open that made its draft, and every call on that draft since.
  pub taken_whole : (cs : List Call) (d : ℕ) (u : Due d (history m cs))
      → Whole d (history m cs) u.draft (block d (history m cs))
  taken_whole cs d u = block_whole d (history m cs) u.draft u.holds

  -- Where a save is accepted, no call of its block is a save.
  pub taken_saveless : (cs : List Call) (d : ℕ)
      → accepted (reply (after m cs) (save d)) ≡ true
      → saveless (block d (history m cs)) ≡ true
  taken_saveless cs d a = rw (run_history m z cs) (save_only cs d (few cs) (rw (run_replies m z cs (save d)) at a)).1

  -- ---- (b) the list of demand 3

  -- The serial list of a history, whichever questions it keeps, run from fresh: its calls reply as they did, and it
  -- leaves the hulls as they were left, edit numbers and weights too.
  pub serial_gives : (kept : Ask → Bool) (cs : List Call) → Gives m (serial kept (history m cs)) (after m cs)
  serial_gives kept cs =
      let ks : List Call = map call (serial kept (events_of cs)) in
      let g = serial_runs kept cs in
      let S = run_shows m z cs in
      let T = run_shows m z ks in
      rw (run_history m z cs) (record {
        replies = run_history m z ks ∙ g.replies;
        hulls = record {
          counts = T.counts ∙ rw g.register (sym S.counts);
          numbers = λ h l. let j = there_few S l in shown_number T j ∙ rw g.register (sym (shown_number S j));
          weights = λ h l.
              let j = there m z cs l in
              let i : h < (state_of ks).register.entered = rw g.register j in
              shown_weight T i ∙ rw g.register (sym (shown_weight S j));
          sheets = λ h l. let j = there_few S l in shown_sheet T j ∙ rw g.register (sym (shown_sheet S j));
        };
      })

-- ---- the demand whole

pub demand_3 : (m : List ℕ) → length m ≡ register_words → Demand m
demand_3 m z =
    record {
      accepts = save_iff m z;
      saves = save_does m z;
      counts = edits_count m z;
      weighs = weights_told m z;
      serves = serial_gives m z;
    }
