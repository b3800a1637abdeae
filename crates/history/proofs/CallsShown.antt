-- A call on a memory that shows a state leaves a memory that shows the state after it, and replies as the model does.
use Prim.Native.Nat.{ℕ, ◌+◌, ◌<◌}
use native.Mathlib.Omega.{arith}
use native.Mathlib.Numerals.{add-one}
use mathlib.Core.Path.{◌≡◌, refl, sym, ◌∙◌}
use mathlib.Core.List.{List}
use mathlib.Core.Bool.{true, false}
use mathlib.Core.Option.{none, some}
use borrow.Author.Tests.{eqb-false}
use Rattle.form.specs.Outcome.{right}
use Rattle.answers.specs.Answer.{Answer}
use Rattle.answers.specs.Answer.{Refused}
use Rattle.answers.specs.Values.{is_refusal}
use Rattle.sheet.specs.SheetText.{read_sheet}
use Rattle.memory.specs.Layout.{most_hulls, desks, edit, hull_sheet, draft_hull, draft_sheet}
use Rattle.memory.specs.Formed.{formed}
use Rattle.memory.specs.Updates.{entered, opened, dropped, saved}
use Rattle.register.specs.Refusals.{room_refusal, hull_refusal, open_refusal, desk_refusal, or_refused, sheet_of}
use Rattle.register.specs.Calls.{Ask, Call, ask, lent, makes, fills, step}
use Rattle.register.proofs.Refusals.{desk_high, desk_idle, desk_holds, room_left}
use Rattle.register.proofs.Keeps.{keeps_formed}
use Rattle.register.proofs.Effects.{leaves_refused, leaves_accepted, leaves_same, refused_leaves, accepted_makes}
use Rattle.register.proofs.Effects.{new_changes, open_changes, save_changes, drop_changes}
use Rattle.history.specs.Replies.{Reply, reply, next}
use Rattle.history.proofs.Model.{Draft, State, ask_says, opens, at_desk, after_entry, after_save, edits_of}
use Rattle.history.proofs.Rules.{Idle, desk_unknown, draft_missing}
use Rattle.history.proofs.Tools.{at_or, self}
use Rattle.history.proofs.Shown.{Shows, holds_none, same_hull_in, same_draft_in, desk_shows, shown_few}
use Rattle.history.proofs.Shown.{shown_number, shown_sheet, shown_weight, shown_holds, shown_hull}

-- the memory o shows the state t, and the reply a is the reply r
pub record Tied (o : List ℕ) (a : Reply) (t : State) (r : Reply) : Type 0 where
  pub shows : Shows o t
  pub replies : a ≡ r

module _ {m : List ℕ} {s : State} (S : Shows m s) where
  -- ---- any call

  -- refused: the memory is as it was
  pub kept : (c : Call) (a : Answer)
      → (step m c).answer ≡ a
      → is_refusal a ≡ true
      → Tied (next m c) (reply m c) s (record { answer = a; output = lent c })
  unfolding next reply
  kept c a e f =
      let is : (step m c).memory ≡ m = (refused_leaves m c (rw e f)).memory_kept in
      record { shows = rw is S; replies = rw (e, leaves_refused a (fills m c) (lent c) f) refl }

  -- accepted: the memory is what the call makes, and well formed
  pub done : {t : State} (c : Call) (a : Answer)
      → (step m c).answer ≡ a
      → is_refusal a ≡ false
      → (formed (makes m c) ≡ true → Shows (makes m c) t)
      → Tied (next m c) (reply m c) t (record { answer = a; output = fills m c })
  unfolding next reply
  done c a e f g =
      let is : (step m c).memory ≡ makes m c = accepted_makes m c (rw e f) in
      let ok = keeps_formed m c S.ok in
      record { shows = rw is (g (rw is at ok)); replies = rw (e, leaves_accepted a (fills m c) (lent c) f) refl }

  -- what is asked of a hull
  pub asks : (h : ℕ) (q : Ask)
      → h < s.register.entered
      → hull_refusal m h ≡ 0
      → Tied (next m (ask h q)) (reply m (ask h q)) s (ask_says h q (s.register.hull h).sheet)
  unfolding next reply ask_says
  asks h q p z =
      record {
        shows = rw (leaves_same (step m (ask h q)).answer m) S;
        replies = rw (z, shown_weight S p, shown_sheet S (shown_few S p)) refl;
      }

  -- ---- the refusals of a memory that shows the state

  pub holds_desk : {d : ℕ} {x : Draft} → d < desks → s.draft d ≡ some x → desk_refusal m d ≡ 0
  holds_desk {d} p q = sym (desk_holds m d S.ok p refl (shown_holds S p q).some)

  pub idle_desk : {d n : ℕ} (a : Answer) → Idle s d n → or_refused (desk_refusal m d) a ≡ Refused n
  idle_desk {d} a (desk_unknown p) = rw (← desk_high m d S.ok p) refl
  idle_desk {d} a (draft_missing p q) = rw (← desk_idle m d S.ok p refl (holds_none m d (S.drafts d p ∙ q))) refl

  pub room : s.register.entered < most_hulls → room_refusal m ≡ 0
  room p = sym (room_left m S.ok refl (rw S.counts p))

  -- ---- what is made shows the state after the call

  pub enters_shown : (t r : List ℕ)
      → s.register.entered < most_hulls
      → read_sheet t ≡ right r
      → formed (entered m (sheet_of t)) ≡ true
      → Shows (entered m (sheet_of t)) (after_entry s t)
  enters_shown t r p e ok =
      let x = new_changes m t r (room p) e in
      let after = s.register.entered in
      record {
        ok = ok;
        counts = omega (arith, x.counts, S.counts);
        hulls =
            at_or after _ (λ l. rw (self, ← S.counts, x.number, x.sheet) refl)
            (λ h n l. rw n (same_hull_in (x.others h l (rw (← S.counts) at (eqb-false h after n))) ∙ S.hulls h l));
        drafts = λ d l. same_draft_in (x.drafts d l) ∙ S.drafts d l;
      }

  pub opens_shown : (d h : ℕ)
      → h < s.register.entered
      → open_refusal m d h ≡ 0
      → formed (opened m d h) ≡ true
      → Shows (opened m d h) (at_desk s d (some (opens s.register h)))
  opens_shown d h q z ok =
      let x = open_changes m d h z in
      let few = shown_few S q in
      desk_shows S ok x.rest (rw (x.holds, x.hull, x.number, x.sheet, ← S.hulls h few) refl)

  pub drops_shown : (d : ℕ) → desk_refusal m d ≡ 0 → formed (dropped m d) ≡ true → Shows (dropped m d) (at_desk s d none)
  drops_shown d z ok = let x = drop_changes m d z in desk_shows S ok x.rest (rw x.holds refl)

  module _ {d : ℕ} (x : Draft) (p : d < desks) (q : s.draft d ≡ some x) where
    pub its_number : edit m (draft_hull m d) ≡ edits_of s x
    its_number = rw (shown_holds S p q).hull (shown_number S (shown_few S (shown_hull S p q)))

    pub saves_shown : formed (saved m d) ≡ true → Shows (saved m d) (after_save s d x)
    saves_shown ok =
        let y = save_changes m d (holds_desk p q) in
        let H = shown_holds S p q in
        let number : edit (saved m d) x.hull ≡ edit m (draft_hull m d) + 1 = rw (← H.hull) y.number in
        let sheet : hull_sheet (saved m d) x.hull ≡ draft_sheet m d = rw (← H.hull) y.sheet in
        let others = rw H.hull at y.others in
        record {
          ok = ok;
          counts = y.counts ∙ S.counts;
          hulls =
              at_or x.hull _ (λ l. rw (self, number, sheet, its_number, add-one, H.sheet) refl)
              (λ h n l. rw n (same_hull_in (others h l (eqb-false h x.hull n)) ∙ S.hulls h l));
          drafts =
              at_or d _ (λ l. rw (self, y.holds) refl)
              (λ j n l. rw n (same_draft_in (y.drafts j l (eqb-false j d n)) ∙ S.drafts j l));
        }
