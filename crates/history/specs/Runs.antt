-- 00, demand 3: a run starts from a fresh register, and each call gets the whole memory as the last one left it. A run
-- is its calls, newest first; its history is the same calls, each with its reply.
use Rattle.std.specs.Prelude.{ℕ, List, [], ◌∷◌}
use Rattle.register.specs.Calls.{Call, fresh_step}
use Rattle.history.specs.Replies.{Reply, reply, next}

infix 5 ◌⇒◌
pub data Event : Type 0 where
  ◌⇒◌ : Call → Reply → Event

abbrev pub call : Event → Call
call (c ⇒ r) = c

-- the memory after the calls, of one that was m before its fresh start
unfoldable pub after : List ℕ → List Call → List ℕ
after m [] = (fresh_step m).memory
after m (c ∷ cs) = next (after m cs) c

unfoldable pub history : List ℕ → List Call → List Event
history m [] = []
history m (c ∷ cs) = (c ⇒ reply (after m cs) c) ∷ history m cs
