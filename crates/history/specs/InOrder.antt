-- 00, demand 3, once more with the oldest call first.
use Rattle.std.specs.Prelude.{ℕ, ◌<◌, ◌≡◌, Bool, true, ◌↔◌, List, [], ◌∷◌, map, reverse, pos}
use Rattle.memory.specs.Layout.{hull_count, edit, hull_weight}
use Rattle.register.specs.Calls.{fresh_step, Ask, Call, save}
use Rattle.history.specs.Replies.{reply, next, accepted}
use Rattle.history.specs.Runs.{Event, ◌⇒◌, call}
use Rattle.history.specs.History.{serial}
use Rattle.history.specs.Told.{saves_of}
use Rattle.history.specs.Weights.{weight_told}
use Rattle.history.specs.Demand.{Due, SaveDoes, SameHulls}

-- a run from the memory m on: its calls, each with its reply; and the memory at its end
unfoldable pub transcript : List ℕ → List Call → List Event
transcript m [] = []
transcript m (c ∷ cs) = (c ⇒ reply m c) ∷ transcript (next m c) cs

unfoldable pub lastly : List ℕ → List Call → List ℕ
lastly m [] = m
lastly m (c ∷ cs) = lastly (next m c) cs

-- the serial list of a transcript
unfoldable pub order : (Ask → Bool) → List Event → List Event
order kept es = reverse (serial kept (reverse es))

-- run from fresh, the calls of the transcript es in serial order each have the reply that they had, and leave the hulls
-- of the memory r
pub record GivesInOrder (m : List ℕ) (kept : Ask → Bool) (es : List Event) (r : List ℕ) : Type 0 where
  pub replies : transcript (fresh_step m).memory (map call (order kept es)) ≡ order kept es
  pub hulls : SameHulls (lastly (fresh_step m).memory (map call (order kept es))) r

-- the demand, of a memory that was m before its fresh start, and of any calls after it
pub record DemandInOrder (m : List ℕ) : Type 0 where
  pub accepts : (cs : List Call) (d : ℕ)
      → (accepted (reply (lastly (fresh_step m).memory cs) (save d)) ≡ true)
      ↔ Due d (reverse (transcript (fresh_step m).memory cs))
  pub saves : (cs : List Call) (d : ℕ) (u : Due d (reverse (transcript (fresh_step m).memory cs)))
      → SaveDoes d u.draft (reverse (transcript (fresh_step m).memory cs))
      (lastly (fresh_step m).memory (reverse (map call u.draft.before))) (lastly (fresh_step m).memory cs)
      (reply (lastly (fresh_step m).memory cs) (save d)).answer (next (lastly (fresh_step m).memory cs) (save d))
  pub counts : (cs : List Call) (h : ℕ)
      → h < hull_count (lastly (fresh_step m).memory cs)
      → edit (lastly (fresh_step m).memory cs) h ≡ saves_of h (reverse (transcript (fresh_step m).memory cs))
  pub weighs : (cs : List Call) (h : ℕ)
      → h < hull_count (lastly (fresh_step m).memory cs)
      → pos (hull_weight (lastly (fresh_step m).memory cs) h)
      ≡ weight_told h (reverse (transcript (fresh_step m).memory cs))
  pub serves : (kept : Ask → Bool) (cs : List Call)
      → GivesInOrder m kept (transcript (fresh_step m).memory cs) (lastly (fresh_step m).memory cs)
