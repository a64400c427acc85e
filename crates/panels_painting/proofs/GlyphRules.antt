-- The glyph rule over a list of commands, as a test that computes; a list that keeps it, and one that does not. Assumes nothing.
use mathlib.Core.Path.{◌≡◌, refl, sym}
use mathlib.Core.Bool.{Bool, true, ◌&&◌, true≢false}
use mathlib.Core.Logic.{inl, inr}
use mathlib.Core.List.{List, [], ◌∷◌}
use Prim.Native.Nat.{ℕ}
use lib.Dec.{T, eqb}
use lib.ListN.{length}
use lib.Ieee.{Float, eq, neg, of_int}
use lib.Ieee.Fits.{and_l, and_r}
use Rattle.base_lists.specs.Pick.{pick}
use Rattle.base_lists.specs.Members.{All, Any, In}
use Rattle.base_lists.proofs.Members.{in_all}
use Rattle.base_lists.proofs.Bools.{holds, is_true}
use Rattle.base_floats.specs.Whole.{whole}
use Rattle.kurbo_geometry.specs.declared.Rect.{Rect}
use Rattle.kurbo_geometry.specs.Boxes.{same_edges}
use Rattle.kurbo_affine.specs.declared.Affine.{Affine}
use Rattle.display_list_commands.specs.declared.Glyph.{Glyph}
use Rattle.display_list_commands.specs.declared.DrawCommand.TheVariants.{GlyphRun}
use Rattle.display_list_commands.specs.Bounds.{Command}
use Rattle.display_list_operand_equality.specs.Operands.{same_glyph}
use Rattle.panels_painting.specs.Painters.{is_run, font_of, GlyphRule}
use Rattle.display_list_commands.specs.Sizes.{size_of}

-- ---- the test
unfoldable pub every : {A : Type 0} → (A → Bool) → List A → Bool
every f [] = true
every f (a ∷ l) = f a && every f l

every_all : {A : Type 0} (f : A → Bool) (l : List A) → T (every f l) → All (λ a. f a ≡ true) l
unfolding every All
every_all f [] e = tt
every_all f (a ∷ l) e = (is_true (f a) (and_l (f a) (every f l) e), every_all f l (and_r (f a) (every f l) e))

every_in : {A : Type 0} (f : A → Bool) (a : A) (l : List A) → In a l → every f l ≡ true → f a ≡ true
every_in f a l i e = in_all (λ x. f x ≡ true) a l i (every_all f l (holds (every f l) e))

-- what the rule asks of two glyphs of two commands
unfoldable pub one_box : Command → Command → Glyph → Glyph → Bool
one_box c d g j = pick (eqb (font_of c.draw) (font_of d.draw) && eq (size_of c.draw) (size_of d.draw) && same_glyph g j) (same_edges g.bounds j.bounds) true

unfoldable pub one_box_each : List Command → Bool
one_box_each cs = every (λ c. every (λ d. every (λ g. every (one_box c d g) d.glyphs) c.glyphs) cs) cs

-- the rule in full, over commands that the list has
one_box_lem : (cs : List Command) → one_box_each cs ≡ true → {M : Command → Type 0} → ((c : Command) → M c → In c cs)
    → (c d : Command) → M c → M d → is_run c.draw ≡ true → is_run d.draw ≡ true → (g j : Glyph) → In g c.glyphs → In j d.glyphs
    → eqb (font_of c.draw) (font_of d.draw) ≡ true → eq (size_of c.draw) (size_of d.draw) ≡ true → same_glyph g j ≡ true → same_edges g.bounds j.bounds ≡ true
unfolding one_box_each one_box
one_box_lem cs e n c d x y r s g j i k f z m =
    let t = every_in (one_box c d g) j d.glyphs k (every_in (λ g. every (one_box c d g) d.glyphs) g c.glyphs i (every_in _ d cs (n d y) (every_in _ c cs (n c x) e))) in
    rw (f, z, m) at t

pub glyph_rule : (cs : List Command) → one_box_each cs ≡ true → {M : Command → Type 0} → ((c : Command) → M c → In c cs) → GlyphRule M
glyph_rule cs e n = one_box_lem cs e n

-- ---- two RUNs of one font and size share a glyph, at 0 in one and at -0 in the other
abbrev identity : Affine
identity = record { a = whole 1; b = whole 0; c = whole 0; d = whole 1; e = whole 0; f = whole 0 }

-- a glyph at x and 6, with its box
abbrev letter : ℕ → Float → Rect → Glyph
letter id x b = record { id = id; x = x; y = whole 6; bounds = b }

abbrev box : Float → ℕ → ℕ → Rect
box x right bottom = record { x0 = x; y0 = whole 6; x1 = whole right; y1 = whole bottom }

abbrev run : ℕ → List Glyph → Command
run brush gs = record { draw = GlyphRun 7 (whole 2) identity brush (box (whole 0) 1 7) (length gs); glyphs = gs; clips = [] }

abbrev plain : Glyph
plain = letter 5 (whole 0) (box (whole 0) 2 8)

abbrev signed : Glyph
signed = letter 5 (neg (whole 0)) (box (neg (whole 0)) 2 8)

-- one of another id, in another box
abbrev other : Glyph
other = letter 6 (whole 0) (box (whole 0) 1 8)

abbrev sharing : List Command
sharing = run 1 (plain ∷ other ∷ []) ∷ run 2 (signed ∷ []) ∷ []

-- the same glyph in a shorter box
abbrev short : Glyph
short = letter 5 (neg (whole 0)) (box (neg (whole 0)) 2 7)

record Shared : Type 0 where
  -- the rule speaks of the two glyphs
  same : same_glyph plain signed ≡ true
  kept : GlyphRule (λ c. In c sharing)
  -- it does not hold where the boxes differ
  broken : GlyphRule (λ c. In c (run 1 (plain ∷ []) ∷ run 2 (short ∷ []) ∷ [])) → ⊥

shared : Shared
unfolding one_box_each every one_box same_glyph same_edges eq neg of_int Any
shared = record {
  same = refl;
  kept = glyph_rule sharing refl (λ c i. i);
  broken = λ G. true≢false (sym (G (run 1 (plain ∷ [])) (run 2 (short ∷ [])) (inl refl) (inr (inl refl)) refl refl plain short (inl refl) (inl refl) refl refl refl));
}
