-- DEMAND 3 with the oldest call first.
use Prim.Native.Nat.{ℕ}
use mathlib.Core.Path.{◌≡◌, refl, sym, ap, ◌∙◌}
use mathlib.Core.Bool.{Bool}
use mathlib.Core.List.{List, [], ◌∷◌, map, reverse, reverse_aux, reverse-reverse}
use lib.ListN.{length}
use Rattle.memory.specs.Layout.{register_words}
use Rattle.register.specs.Calls.{fresh_step, Ask, Call}
use Rattle.history.specs.Runs.{Event, call, after, history}
use Rattle.history.specs.History.{serial}
use Rattle.history.specs.Demand.{Gives}
use Rattle.history.specs.InOrder.{transcript, lastly, order, GivesInOrder, DemandInOrder}
use Rattle.history.proofs.Theorems.{save_iff, save_does, edits_count, serial_gives}
use Rattle.history.proofs.RunsTold.{weights_told}

-- ---- the two ways to write a run

module _ (m : List ℕ) where
  history_turned : (cs past : List Call)
      → history m (reverse_aux cs past) ≡ reverse_aux (transcript (after m past) cs) (history m past)
  unfolding history after transcript
  history_turned [] past = refl
  history_turned (c ∷ cs) past = history_turned cs (c ∷ past)

  after_turned : (cs past : List Call) → after m (reverse_aux cs past) ≡ lastly (after m past) cs
  unfolding after lastly
  after_turned [] past = refl
  after_turned (c ∷ cs) past = after_turned cs (c ∷ past)

  newest_first : (cs : List Call) → history m (reverse cs) ≡ reverse (transcript (fresh_step m).memory cs)
  unfolding after history
  newest_first cs = history_turned cs []

  newest_last : (cs : List Call) → after m (reverse cs) ≡ lastly (fresh_step m).memory cs
  unfolding after
  newest_last cs = after_turned cs []

  oldest_first : (cs : List Call) → transcript (fresh_step m).memory (reverse cs) ≡ reverse (history m cs)
  oldest_first cs =
      sym (reverse-reverse _) ∙ ap reverse (sym (newest_first (reverse cs)) ∙ ap (history m) (reverse-reverse cs))

  oldest_last : (cs : List Call) → lastly (fresh_step m).memory (reverse cs) ≡ after m cs
  oldest_last cs = sym (newest_last (reverse cs)) ∙ ap (after m) (reverse-reverse cs)

  order_turned : (kept : Ask → Bool) (cs : List Call)
      → order kept (transcript (fresh_step m).memory cs) ≡ reverse (serial kept (history m (reverse cs)))
  unfolding order
  order_turned kept cs = rw (newest_first cs)

calls_turned : (es fs : List Event) → map call (reverse_aux es fs) ≡ reverse_aux (map call es) (map call fs)
calls_turned [] fs = refl
calls_turned (e ∷ es) fs = calls_turned es (e ∷ fs)

-- ---- the theorems

-- From a fresh register: the calls of a run in serial order have the replies that they had in the run, and leave the
-- same hulls with the same edit numbers and weights, whichever questions the list keeps.
pub serial_in_order : (m : List ℕ) (kept : Ask → Bool) (cs : List Call)
    → length m ≡ register_words
    → GivesInOrder m kept (transcript (fresh_step m).memory cs) (lastly (fresh_step m).memory cs)
serial_in_order m kept cs z =
    let es : List Event = serial kept (history m (reverse cs)) in
    let g : Gives m es (after m (reverse cs)) = serial_gives m z kept (reverse cs) in
    let q : map call (order kept (transcript (fresh_step m).memory cs)) ≡ reverse (map call es) =
    ap (map call) (order_turned m kept cs) ∙ calls_turned es [] in
    record {
      replies = rw (q, oldest_first m (map call es), g.replies) (sym (order_turned m kept cs));
      hulls = rw (q, oldest_last m (map call es), ← newest_last m cs) g.hulls;
    }

-- From a fresh register: a save after a run is accepted exactly when it is due, and then does what demand 3 says; edit
-- numbers count accepted saves, and weights are those of entry with the saves' differences; and so the serial list.
pub demand_3_in_order : (m : List ℕ) → length m ≡ register_words → DemandInOrder m
unfolding after
demand_3_in_order m z =
    record {
      accepts = λ cs d. rw (← newest_last m cs, ← newest_first m cs) (save_iff m z (reverse cs) d);
      saves =
          λ cs d. rw (← newest_last m cs, ← newest_first m cs)
          (λ u. rw (oldest_last m (map call u.draft.before)) (save_does m z (reverse cs) d u));
      counts = λ cs h. rw (← newest_last m cs, ← newest_first m cs) (edits_count m z (reverse cs) h);
      weighs = λ cs h. rw (← newest_last m cs, ← newest_first m cs) (weights_told m z (reverse cs) h);
      serves = λ kept cs. serial_in_order m kept cs z;
    }
