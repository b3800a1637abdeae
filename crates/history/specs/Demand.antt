-- 00, demand 3, whole: of every memory m of the right size, fresh start on it, and every list of calls after it.
use Rattle.std.specs.Prelude.{ℕ, suc, ◌<◌, ◌≡◌, Bool, true, ◌↔◌, List, ◌∷◌, map, pos, ◌+ℤ◌}
use Rattle.std.proofs.Math.Option.{some}
use Rattle.answers.specs.Answer.{Answer}
use Rattle.answers.specs.Answer.{Count}
use Rattle.memory.specs.Layout.{hull_count, edit, hull_weight, hull_sheet}
use Rattle.memory.specs.Formed.{most_edits}
use Rattle.register.specs.Calls.{Ask, Call, save}
use Rattle.history.specs.Replies.{reply, accepted}
use Rattle.history.specs.Runs.{Event, call, after, history}
use Rattle.history.specs.History.{block, serial}
use Rattle.history.specs.Told.{Opening, opening, saves_of, quiet_since, redo}
use Rattle.history.specs.Weights.{block_moves, weight_told}

-- (a) a save by desk d is due: there is a draft, no save of its hull was accepted after its open, and 65,535 of them
-- were not yet
pub record Due (d : ℕ) (past : List Event) : Type 0 where
  pub draft : Opening
  pub holds : opening d past ≡ some draft
  pub quiet : quiet_since d draft.hull past ≡ true
  pub room : saves_of draft.hull past < most_edits

-- (a) what an accepted save by desk d, of the draft opened as o says, does: by the history and the memory before it,
-- the memory at the opening, its answer, and the memory after it
pub record SaveDoes (d : ℕ) (o : Opening) (past : List Event) (opened before : List ℕ) (said : Answer)
    (saved : List ℕ) : Type 0 where
  -- it answers the edit number that the hull now has, and that counts the accepted saves
  pub answer : said ≡ Count (suc (saves_of o.hull past))
  pub number : edit saved o.hull ≡ suc (saves_of o.hull past)
  -- the hull holds its sheet at the opening with the draft's accepted work done on it, in order, and nothing else
  pub sheet : hull_sheet saved o.hull ≡ redo (block d past) (hull_sheet opened o.hull)
  -- its weight has moved by the sum of the differences that the draft's accepted calls made
  pub weight : pos (hull_weight saved o.hull)
      ≡ pos (hull_weight before o.hull) +ℤ block_moves (block d past) (hull_sheet opened o.hull)
  -- every other hull is as it was, and no hull comes or goes
  pub hulls : hull_count saved ≡ hull_count before
  pub others : (h : ℕ)
      → h < hull_count before
      → (h ≡ o.hull → ⊥)
      → (edit saved h ≡ edit before h)
      × (hull_weight saved h ≡ hull_weight before h)
      × (hull_sheet saved h ≡ hull_sheet before h)

-- two memories hold the same hulls with the same edit numbers and weights
pub record SameHulls (o m : List ℕ) : Type 0 where
  pub counts : hull_count o ≡ hull_count m
  pub numbers : (h : ℕ) → h < hull_count m → edit o h ≡ edit m h
  pub weights : (h : ℕ) → h < hull_count m → hull_weight o h ≡ hull_weight m h
  pub sheets : (h : ℕ) → h < hull_count m → hull_sheet o h ≡ hull_sheet m h

-- (b) run from fresh, the calls of the list es give the hulls of the memory r, and each the reply that it has in es
pub record Gives (m : List ℕ) (es : List Event) (r : List ℕ) : Type 0 where
  pub replies : history m (map call es) ≡ es
  pub hulls : SameHulls (after m (map call es)) r

-- the demand, of a memory that was m before its fresh start, and of any calls after it, newest first
pub record Demand (m : List ℕ) : Type 0 where
  -- (a) accepted is what is due and nothing else, and it does so; and at any time edit numbers count accepted saves and
  -- a weight is that of its entry with the difference of each
  pub accepts : (cs : List Call) (d : ℕ) → (accepted (reply (after m cs) (save d)) ≡ true) ↔ Due d (history m cs)
  pub saves : (cs : List Call) (d : ℕ) (u : Due d (history m cs))
      → SaveDoes d u.draft (history m cs) (after m (map call u.draft.before)) (after m cs)
      (reply (after m cs) (save d)).answer (after m (save d ∷ cs))
  pub counts : (cs : List Call) (h : ℕ) → h < hull_count (after m cs) → edit (after m cs) h ≡ saves_of h (history m cs)
  pub weighs : (cs : List Call) (h : ℕ)
      → h < hull_count (after m cs)
      → pos (hull_weight (after m cs) h) ≡ weight_told h (history m cs)
  -- (b) the list with each accepted save's block at the save's place gives the same, whichever questions are kept
  pub serves : (kept : Ask → Bool) (cs : List Call) → Gives m (serial kept (history m cs)) (after m cs)
