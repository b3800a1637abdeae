-- 00, demand 3 (b): an accepted save stands with the open and the calls of its draft as one block, where the save was;
-- new hulls stand where they were, and so do the questions on hulls that are kept. Histories are newest first.
use Rattle.std.specs.Prelude.{ℕ, Bool, true, false, cond, ◌&&◌, List, [], ◌∷◌, ◌++◌, eqb}
use Rattle.register.specs.Calls.{Ask, plate, weigh, write, new_hull, open_hull, work, save, drop_draft, ask}
use Rattle.history.specs.Replies.{accepted}
use Rattle.history.specs.Runs.{Event, ◌⇒◌}

-- what an event is to the draft of desk d: its open, the accepted one that made it; a call on it, be it a trial or a
-- refused save; its end, an accepted save or drop; or nothing to it, as every call of another desk, a refused open or
-- drop, and all that is asked of hulls
pub data Role : Type 0 where
  its_open : Role
  its_call : Role
  its_end : Role
  elsewhere : Role

unfoldable pub role : ℕ → Event → Role
role d (new_hull t ⇒ r) = elsewhere
role d (open_hull e h ⇒ r) = cond (eqb d e && accepted r) its_open elsewhere
role d (work e w ⇒ r) = cond (eqb d e) its_call elsewhere
role d (save e ⇒ r) = cond (eqb d e) (cond (accepted r) its_end its_call) elsewhere
role d (drop_draft e ⇒ r) = cond (eqb d e && accepted r) its_end elsewhere
role d (ask h q ⇒ r) = elsewhere

-- the open of desk d's draft and the calls on it. (Of a desk that holds none it is the work and the saves that were
-- refused since its last. The block of its next draft goes back to that draft's open and no further, so none of them is
-- ever taken.)
unfoldable pub block : ℕ → List Event → List Event
block d [] = []
block d (e ∷ past) =
    elim (role d e) [ its_open ↦ e ∷ [] | its_call ↦ e ∷ block d past | its_end ↦ [] | elsewhere ↦ block d past ]

-- which questions on a hull are kept. 00's letter keeps plates and writings, and a question after the weight (02 (vii))
-- is neither; as a plate is, it may be kept too. What is proved of the list is so whichever are.
abbrev pub by_letter : Ask → Bool
by_letter (plate k) = true
by_letter weigh = false
by_letter (write out) = true

abbrev pub every_ask : Ask → Bool
every_ask q = true

-- where an event stands in the serial list: at its own place, alone; at its own place, after the block of a desk's
-- draft; or at none, unless it is in a block
pub data Spot : Type 0 where
  alone : Spot
  with_block : ℕ → Spot
  nowhere : Spot

unfoldable pub spot : (Ask → Bool) → Event → Spot
spot kept (new_hull t ⇒ r) = alone
spot kept (open_hull d h ⇒ r) = nowhere
spot kept (work d w ⇒ r) = nowhere
spot kept (save d ⇒ r) = cond (accepted r) (with_block d) nowhere
spot kept (drop_draft d ⇒ r) = nowhere
spot kept (ask h q ⇒ r) = cond (kept q) alone nowhere

-- the list of demand 3, by the questions that are kept
unfoldable pub serial : (Ask → Bool) → List Event → List Event
serial kept [] = []
serial kept (e ∷ past) =
    elim (spot kept e) [
      | alone ↦ e ∷ serial kept past
      | with_block d ↦ e ∷ (block d past ++ serial kept past)
      | nowhere ↦ serial kept past
    ]
