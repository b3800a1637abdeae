-- How far `after_lines` has come.
use Rattle.std.proofs.Common.{◌≡◌, ◌-◌}
use Rattle.text.specs.Place.{after_lines}
use Rattle.spelling.proofs.cuts.after_lines.Given as goal

abbrev pub invariant-loop : goal.invariant-loop
invariant-loop l = after_lines (l.lines - l.counter) l.rest ≡ after_lines l.lines l.text
