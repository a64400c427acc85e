-- The painter keeps the rules over both pages, and their letters keep the glyph rule. Assumes nothing.
use mathlib.Core.Path.{◌≡◌, refl}
use mathlib.Core.Bool.{Bool, true, false, not, ◌&&◌}
use mathlib.Core.List.{◌++◌}
use Prim.Native.Nat.{ℕ, ◌≤◌}
use native.Mathlib.Omega.{arith}
use lib.Dec.{T}
use lib.Ieee.Fits.{and_l, and_r}
use lib.Ieee.{neg, fits, eq, lt, add, mul, of_int}
use Rattle.base_lists.specs.Members.{All}
use Rattle.base_ieee.proofs.Rank.{ordered, whole_ordered}
use Rattle.base_ieee.proofs.Values.{add_same, same_value}
use Rattle.base_floats.specs.Order.{larger, smaller}
use Rattle.base_floats.specs.Whole.{whole}
use Rattle.kurbo_geometry.specs.declared.Rect.{Rect}
use Rattle.kurbo_geometry.specs.Boxes.{same_edges}
use Rattle.kurbo_geometry.specs.Pixels.{touches}
use Rattle.kurbo_geometry.proofs.Edges.{Ordered}
use Rattle.kurbo_geometry.proofs.Values.{touches_same}
use Rattle.kurbo_affine.specs.Affines.{bounding_box, transform_rect_bbox}
use Rattle.display_list_commands.specs.declared.Glyph.{Glyph}
use Rattle.display_list_commands.specs.Bounds.{Command, united_from, bounds, glyph_bounds}
use Rattle.display_list_commands.proofs.Values.{Entries}
use Rattle.display_list_operand_equality.specs.Operands.{same_glyph}
use Rattle.display_list_equality.proofs.Values.{Good}
use Rattle.panels_painting.specs.Painters.{Key, key_of, same_key, Rules}
use Rattle.panels_painting.proofs.Keys.{key_parts}
use Rattle.panels_painting.proofs.Inside.{Inside, inside_touches}
use Rattle.panels_painting.proofs.InkedRules.{InkWithin, Inked, inked_rules}
use Rattle.panels_painting.proofs.GlyphRules.{every, one_box, one_box_each}
use Rattle.panels_examples.specs.Pages.{box, moved, cell, line, page_one, page_two}
use Rattle.panels_examples.specs.Frames.{ink, paint, mark}

-- ---- the ink is the same for keys equal by value
pub record Numbers (j : Key) : Type 0 where
  pub size : Good j.size
  pub x : Good j.x
  pub y : Good j.y

pub ink_same : (j k : Key) → Numbers j → Numbers k → T (same_key j k) → (p q : ℕ) → touches (ink j) p q ≡ touches (ink k) p q
ink_same j k f g e p q =
    let s = key_parts j k e in
    let z = same_value j.size k.size f.size g.size s.size in
    let x = same_value j.x k.x f.x g.x s.x in
    let y = same_value j.y k.y f.y g.y s.y in
    touches_same (ink j) (ink k) (record { x0 = x; y0 = y; x1 = add_same j.x k.x j.size k.size x z; y1 = add_same j.y k.y j.size k.size y z }) p q

abbrev pub Painted : Command → Type 0
Painted = Inked 8 8 (omega arith) (omega arith) ink Numbers ink_same

pub painted_rules : Rules 8 8 ℕ Painted paint mark
painted_rules = inked_rules 8 8 (omega arith) (omega arith) ink Numbers ink_same

-- ---- what is left to see of a command, as tests that compute
box_ordered : Rect → Bool
box_ordered b = ordered b.x0 && ordered b.y0 && (ordered b.x1 && ordered b.y1)

-- whether no edge of a lies past that of b
box_inside : Rect → Rect → Bool
box_inside a b = not (lt a.x0 b.x0) && not (lt a.y0 b.y0) && (not (lt b.x1 a.x1) && not (lt b.y1 a.y1))

-- whether the ink of a glyph lies in the boxes of the glyph and of the command
ink_inside : Command → Glyph → Bool
ink_inside c g = box_ordered g.bounds && box_ordered (ink (key_of c g)) && box_ordered (glyph_bounds c g) && (box_inside (ink (key_of c g)) (glyph_bounds c g) && box_inside (ink (key_of c g)) (bounds c))

both : (a b : Bool) → T (a && b) → T a × T b
both a b t = (and_l a b t, and_r a b t)

four : (a b c d : Bool) → T (a && b && (c && d)) → T a × T b × T c × T d
four a b c d t =
    let l = both (a && b) (c && d) t in
    let x = both a b l.0 in
    let y = both c d l.1 in
    (x.0, x.1, y.0, y.1)

box_ordered_lem : (b : Rect) → T (box_ordered b) → Ordered b
unfolding box_ordered
box_ordered_lem b t = let f = four (ordered b.x0) (ordered b.y0) (ordered b.x1) (ordered b.y1) t in record { x0 = f.0; y0 = f.1; x1 = f.2; y1 = f.3 }

not_true : (b : Bool) → T (not b) → b ≡ false
not_true true t = absurd t
not_true false t = refl

box_inside_lem : (a b : Rect) → T (box_inside a b) → Inside a b
unfolding box_inside
box_inside_lem a b t =
    let f = four (not (lt a.x0 b.x0)) (not (lt a.y0 b.y0)) (not (lt b.x1 a.x1)) (not (lt b.y1 a.y1)) t in
    record { left = not_true _ f.0; top = not_true _ f.1; right = not_true _ f.2; bottom = not_true _ f.3 }

-- ---- commands of the pages
small : (n : ℕ) → n ≤ 100 → Good (whole n)
small n h = whole_ordered n (omega arith)

moved_numbers : (n : ℕ) → n ≤ 100 → Entries Good (moved n)
moved_numbers n h = record { a = small 1 (omega arith); b = small 0 (omega arith); c = small 0 (omega arith); d = small 1 (omega arith); e = small n h; f = small 0 (omega arith) }

cell_painted : (n : ℕ) → n ≤ 100 → T (box_ordered (bounds (cell n))) → Painted (cell n)
unfolding All box_ordered
cell_painted n h t = record {
  floats = record { draw = (box_ordered_lem (box (whole 0) (whole 2) 2 6) (unfold fits of_int in tt), moved_numbers n h); glyphs = tt; clips = tt };
  box = box_ordered_lem (bounds (cell n)) t;
  fit = tt;
  within = tt;
}

-- what a glyph of a run is to have
record Letter (c : Command) (g : Glyph) : Type 0 where
  own : Ordered g.bounds
  fit : Numbers (key_of c g)
  within : InkWithin 8 8 (omega arith) (omega arith) ink Numbers ink_same c g

letter_inside : (c : Command) (g : Glyph) → Good (key_of c g).size → Ordered (bounds c) → T (ink_inside c g) → Letter c g
unfolding ink_inside
letter_inside c g z o t =
    let k = ink (key_of c g) in
    let h = both (box_ordered g.bounds && box_ordered k && box_ordered (glyph_bounds c g)) (box_inside k (glyph_bounds c g) && box_inside k (bounds c)) t in
    let l = both (box_ordered g.bounds && box_ordered k) (box_ordered (glyph_bounds c g)) h.0 in
    let m = both (box_ordered g.bounds) (box_ordered k) l.0 in
    let n = both (box_inside k (glyph_bounds c g)) (box_inside k (bounds c)) h.1 in
    let i = box_ordered_lem k m.1 in
    record {
      own = box_ordered_lem g.bounds m.0;
      fit = record { size = z; x = i.x0; y = i.y0 };
      within = λ px u. (
        inside_touches k (glyph_bounds c g) i (box_ordered_lem (glyph_bounds c g) l.1) (box_inside_lem k (glyph_bounds c g) n.0) px.p px.q (omega (arith, px.across)) (omega (arith, px.down)) u,
        inside_touches k (bounds c) i o (box_inside_lem k (bounds c) n.1) px.p px.q (omega (arith, px.across)) (omega (arith, px.down)) u,
      );
    }

line_painted : (g j : Glyph) → T (box_ordered (bounds (line g j))) → T (ink_inside (line g j) g) → T (ink_inside (line g j) j) → Painted (line g j)
unfolding All box_ordered
line_painted g j t u v =
    let o = box_ordered_lem (bounds (line g j)) t in
    let x = letter_inside (line g j) g (small 2 (omega arith)) o u in
    let y = letter_inside (line g j) j (small 2 (omega arith)) o v in
    record {
      floats = record { draw = (box_ordered_lem (box (whole 0) (whole 0) 1 1) (unfold fits of_int in tt), moved_numbers 0 (omega arith)); glyphs = (x.own, (y.own, tt)); clips = tt };
      box = o;
      fit = (x.fit, (y.fit, tt));
      within = (x.within, (y.within, tt));
    }

pub pages_painted : All Painted (page_one ++ page_two)
unfolding All box_ordered box_inside ink_inside bounds glyph_bounds united_from transform_rect_bbox bounding_box larger smaller lt add mul neg of_int fits
pages_painted = (
  cell_painted 0 (omega arith) tt,
  (line_painted _ _ tt tt tt, (cell_painted 4 (omega arith) tt, (line_painted _ _ tt tt tt, tt))),
)

-- every glyph has one box, 0 and -0 alike
pub pages_one_box : one_box_each (page_one ++ page_two) ≡ true
unfolding one_box_each every one_box same_glyph same_edges eq neg of_int
pages_one_box = refl
