-- Worked examples, each by computing its definition: two inputs that agree and are not equal, and why run sizes count by their bits. Assumes nothing.
use mathlib.Core.Path.{◌≡◌, refl}
use mathlib.Core.Bool.{true, false}
use mathlib.Core.List.{List, [], ◌∷◌, ◌++◌}
use Prim.Native.Nat.{ℕ}
use lib.ListN.{get_or}
use lib.Ieee.{nan, binary32, of_bits}
use Rattle.base_lists.specs.Places.{ByPlace}
use Rattle.base_ieee.specs.Values.{zero_of}
use Rattle.display_list_commands.specs.Bounds.{Command}
use Rattle.display_list_equality.specs.Drawings.{equal}
use Rattle.display_list_changes.specs.Changes.{changed_bounds}
use Rattle.display_list_changes.proofs.Examples.{box, run, glyph, signed_size}
use Rattle.base_rect_list.specs.Rects as Rects
use Rattle.strip.specs.declared.Cursor.{Cursor}
use Rattle.strip_frame.specs.declared.Entry.TheVariants.{Next}
use Rattle.strip_frame.specs.Frame.{strips}
use Rattle.plan_answers.specs.Drafts.{next_outcome}
use Rattle.plan_answers.specs.Space.{Lent}
use Rattle.plan_answers.specs.Answers.{rect_words_of}
use Rattle.plan_answers.proofs.Examples.{header, zero8, one8, two8, content, worked}
use Rattle.plan_agreement.specs.Agree.{agreeing}
use Rattle.plan_agreement.specs.Plans.{InputsAgree, SamePlan}
use Rattle.plan_agreement.proofs.Plans.{same_by_value}

-- ---- a square of 2 by 2 in the corner of the screen, which the new strip has no more. The zeros along x are 0, or -0.
abbrev minus8 : List ℕ
minus8 = 0 ∷ 0 ∷ 0 ∷ 0 ∷ 0 ∷ 0 ∷ 0 ∷ 128 ∷ []

abbrev gone : List ℕ → List ℕ
gone zero = header ++ (3 ∷ (content ++ zero ++ zero8 ++ two8 ++ two8 ++ one8 ++ zero8 ++ zero ++ one8 ++ zero ++ zero8 ++ content ++ (0 ∷ 0 ∷ [])))

-- where the two strips end, whatever the zeros
abbrev old : Cursor
old = record { at = 110; depth = 0; clips = 0; commands = 1; glyphs = 0; due = 0; run = 12; united = record { x0 = zero_of false; y0 = zero_of false; x1 = zero_of false; y1 = zero_of false } }

abbrev new : Cursor
new = record { at = 111; depth = 0; clips = 0; commands = 0; glyphs = 0; due = 0; run = 0; united = record { x0 = zero_of false; y0 = zero_of false; x1 = zero_of false; y1 = zero_of false } }

pub gone_agree : (z : Lent) → InputsAgree z Next (gone zero8) (gone minus8) (strips old new) (strips old new)
unfolding worked ByPlace agreeing
gone_agree z = record { sizes = refl; read = refl; other_read = refl; old_agree = (refl, tt); new_agree = tt; clips = refl }

-- the one rectangle begins at 0, or at -0; all else that the two inputs get is the same
positive_edge : get_or (rect_words_of (next_outcome (gone zero8))) 0 nan ≡ zero_of false
unfolding worked Rects.words_of_rects
positive_edge = refl

negative_edge : get_or (rect_words_of (next_outcome (gone minus8))) 0 nan ≡ zero_of true
unfolding worked Rects.words_of_rects
negative_edge = refl

gone_planned : (z : Lent) → SamePlan z (next_outcome (gone zero8)) (next_outcome (gone minus8))
gone_planned z = same_by_value z Next (gone zero8) (gone minus8) (strips old new) (strips old new) (gone_agree z)

-- ---- a run of size 0, or -0, and of two glyphs, of which the second stands at a column
abbrev sized : ℕ → ℕ → Command
sized bits x = run (of_bits binary32 bits) (box 0 0 9 1) 2 (glyph 5 0 ∷ glyph 6 x ∷ [])

-- they are equal by value, and do not agree
sizes_equal : equal (sized 0 4) (sized 0x8000_0000 4) ≡ true
unfolding worked
sizes_equal = refl

sizes_apart : agreeing (sized 0 4) (sized 0x8000_0000 4) ≡ false
unfolding worked agreeing
sizes_apart = refl

-- since what changed from one and the same old run is the moved glyph for the one, and the whole run for the other
moved_glyph : changed_bounds (sized 0 2) (sized 0 4) ≡ box 2 0 5 1 ∷ []
unfolding worked
moved_glyph = refl

moved_run : changed_bounds (sized 0 2) (sized 0x8000_0000 4) ≡ box 0 0 5 1 ∷ []
moved_run = signed_size
