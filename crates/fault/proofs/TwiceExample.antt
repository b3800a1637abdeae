-- Two parts of one kind of line, the first with the narrower limit: what is outside the first is not let through as a
-- line of the second, so nothing after it is the text's place.
use mathlib.Core.Path.{◌≡◌, refl, sym, ◌∙◌}
use mathlib.Core.Bool.{true}
use mathlib.Core.List.{List, [], ◌∷◌}
use Prim.Native.Nat.{ℕ}
use native.Mathlib.Omega.{arith}
use Rattle.answers.specs.Refusals.{broken_line, outside_limits}
use Rattle.text.specs.Quoted.{bytes}
use Rattle.text.specs.Field.{field_of, agreed}
use Rattle.text.specs.Number.{number_of, rest_of, digits_in, digits_of}
use Rattle.text.specs.Limit.{ranging}
use Rattle.text.specs.Line.{Line, read_entry, read_numbers, read_line}
use Rattle.text.specs.Place.{feeds, since_feed}
use Rattle.text.proofs.Limits.{narrow, readable}
use Rattle.text.proofs.Most.{numbers_most}
use Rattle.form.specs.Parts.{Form, Rows, one_line, kind_of}
use Rattle.form.specs.Outcome.{Verdict, wrong}
use Rattle.form.specs.Reading.{read_rows, read_parts, read_form}
use Rattle.form.proofs.Letters.{line_made, kinds_made}
use Rattle.form.proofs.Most.{kinds_most, parts_most}
use Rattle.form.proofs.Made.{disjoint, apart, told, parts_made, well_made}
use Rattle.fault.proofs.Sayable.{can_be, sayable}
use Rattle.fault.proofs.Verdicts.{WrongAt, wrong_settled}

abbrev few : Line
few = record { tag = bytes "X\t"; limits = ranging 0 5 ∷ [] }

abbrev many : Line
many = record { tag = bytes "X\t"; limits = ranging 0 99 ∷ [] }

abbrev end : Line
end = record { tag = bytes "END\n"; limits = [] }

twice : Form
twice = record { parts = one_line few ∷ one_line many ∷ one_line end ∷ []; room = 20 }

twice_made : well_made twice ≡ true
unfolding twice well_made parts_made told apart disjoint kinds_made line_made readable narrow kind_of
    parts_most kinds_most numbers_most digits_of digits_in
twice_made = refl

twice_said : sayable twice.parts ≡ true
unfolding twice sayable can_be
twice_said = refl

-- 50 is outside the first part, and within the second
text : List ℕ
text = bytes "X\t50\nX\t7\nZ"

text_outside : read_form twice text ≡ wrong outside_limits 1 3
unfolding twice text read_form read_parts read_rows kind_of read_line read_numbers read_entry agreed field_of number_of rest_of
    feeds since_feed
text_outside = refl

-- the third line would be at fault if the 50 were passed over
not_the_third : WrongAt twice text 3 1 → ⊥
unfolding twice text
not_the_third w =
    let e = wrong_settled twice twice_made twice_said text (omega arith) 3 1 w in
    let d : ◌≡◌ {A = Verdict (List Rows)} (wrong broken_line 3 1) (wrong outside_limits 1 3) = sym e ∙ text_outside in
    let z : broken_line ≡ outside_limits = cc in
    omega arith
