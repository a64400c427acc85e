-- A list state that stands for open clips: what a push and a pop make of them, where there is room. Assumes nothing.
use mathlib.Core.Path.{◌≡◌, refl, sym, ap, ◌∙◌}
use mathlib.Core.Bool.{Bool, true, false}
use mathlib.Core.List.{List, [], ◌∷◌, ◌++◌}
use Prim.Native.Nat.{ℕ, zero, suc, ◌+◌, ◌-◌, ◌*◌, ◌/◌, ◌≤◌, ◌<◌}
use native.Mathlib.Omega.{arith}
use lib.Dec.{eqb}
use lib.ListN.{length, take, set, length-set, length-append}
use lib.Seq.{take_at}
use lib.Ieee.{Float}
use borrow.Author.Tests.{le-leb, ne_eqb}
use Rattle.base_lists.specs.Pick.{pick}
use Rattle.base_lists.proofs.Picks.{pick_true, pick_false}
use Rattle.kurbo_geometry.specs.declared.Rect.{Rect}
use Rattle.kurbo_affine.specs.Affines.{transform_rect_bbox}
use Rattle.display_list_commands.specs.declared.Glyph.{Glyph}
use Rattle.display_list_commands.specs.declared.DrawCommand.{DrawCommand}
use Rattle.display_list_commands.specs.Bounds.{transform_of, clipped, glyph_bounds}
use Rattle.display_list_clips.specs.Chains.{clip_rect, clip_at, below_at, chain, Clips, put_clip, Room}
use Rattle.display_list_clips.proofs.Chaining.{clip_rect_is, chain_none, chain_step, put_kept, put_chain, put_clips, no_clips, length_clip}
use Rattle.display_list.specs.declared.ListState.{ListState}
use Rattle.display_list.specs.Lists.{clip_room, pushed_clip, clip_boxes, clip_numbers, popped_clip, open_rect, window_glyph_bounds}
use Rattle.display_list.proofs.Rooms.{fits_clip}

-- the state stands for these open clips, oldest first, and the space holds them
pub record HoldsClips (cs : List Rect) (d : ListState) (bs : List Float) (ns : List ℕ) : Type 0 where
  pub clips : Clips d.clips bs ns
  pub low : d.top ≤ d.clips
  pub chained : chain bs ns d.top ≡ cs
  pub depth : d.depth ≡ length cs

-- no clip is open at the start of a list, though the space may hold those of another
abbrev pub begun : ListState → ListState
begun d = record { clips = d.clips; top = 0; depth = 0; commands = d.commands }

pub held_begin : (cs : List Rect) (d : ListState) (bs : List Float) (ns : List ℕ) → HoldsClips cs d bs ns → HoldsClips [] (begun d) bs ns
held_begin cs d bs ns h = record { clips = h.clips; low = omega arith; chained = chain_none bs ns; depth = refl }

pub held_none : (bs : List Float) (ns : List ℕ) → HoldsClips [] (record { clips = 0; top = 0; depth = 0; commands = 0 }) bs ns
held_none bs ns = record { clips = no_clips bs ns; low = omega arith; chained = chain_none bs ns; depth = refl }

-- ---- a push
module _ (cs : List Rect) (d : ListState) (bs : List Float) (ns : List ℕ) (b : Rect) (h : HoldsClips cs d bs ns) (p : 8 * d.clips + 8 ≤ length bs) (q : d.clips < length ns) where
  room : Room d.clips d.top bs ns
  room = record { boxes = p; numbers = q; lower = h.low }

  test : clip_room d.clips d.top (length bs) (length ns) ≡ true
  test = fits_clip d.clips d.top bs ns room

  pub stored_boxes : clip_boxes d bs ns b ≡ put_clip bs d.clips d.top b
  unfolding clip_boxes
  stored_boxes = pick_true _ (put_clip bs d.clips d.top b) bs test

  pub stored_numbers : clip_numbers d bs ns ≡ set ns d.clips d.top
  unfolding clip_numbers
  stored_numbers = pick_true _ (set ns d.clips d.top) ns test

  -- every clip pushed before keeps its chain
  pub push_keeps : (x : ℕ) → x ≤ d.clips → chain (clip_boxes d bs ns b) (clip_numbers d bs ns) x ≡ chain bs ns x
  push_keeps x l = (λ i. chain (stored_boxes i) (stored_numbers i) x) ∙ put_kept d.clips d.top bs ns b h.clips room x l

  pub held_push : HoldsClips (cs ++ (b ∷ [])) (pushed_clip d) (clip_boxes d bs ns b) (clip_numbers d bs ns)
  held_push = rw (stored_boxes, stored_numbers) record {
    clips = put_clips d.clips d.top bs ns b h.clips room;
    low = omega arith;
    chained = put_chain d.clips d.top bs ns b h.clips room ∙ ap (λ (l : List Rect). l ++ (b ∷ [])) h.chained;
    depth = omega (arith, h.depth, length-append cs (b ∷ []));
  }

-- lengths stay, stored or not
pub length_boxes : (d : ListState) (bs : List Float) (ns : List ℕ) (b : Rect) → length (clip_boxes d bs ns b) ≡ length bs
unfolding clip_boxes
length_boxes d bs ns b = go (clip_room d.clips d.top (length bs) (length ns))
  where
    go : (t : Bool) → length (pick t (put_clip bs d.clips d.top b) bs) ≡ length bs
    go true = length_clip d.clips d.top bs b
    go false = refl

pub length_numbers : (d : ListState) (bs : List Float) (ns : List ℕ) → length (clip_numbers d bs ns) ≡ length ns
unfolding clip_numbers
length_numbers d bs ns = go (clip_room d.clips d.top (length bs) (length ns))
  where
    go : (t : Bool) → length (pick t (set ns d.clips d.top) ns) ≡ length ns
    go true = length-set ns d.clips d.top
    go false = refl

-- ---- a pop
snoc_same : (l m : List Rect) (a b : Rect) → l ++ (a ∷ []) ≡ m ++ (b ∷ []) → l ≡ m
snoc_same l m a b e =
    let n : length m ≡ length l = omega (arith, length-append l (a ∷ []), length-append m (b ∷ []), ap length e) in
    sym (take_at l (a ∷ []) (length l) refl) ∙ ap (take (length l)) e ∙ take_at m (b ∷ []) (length l) n

module _ (cs : List Rect) (b : Rect) (d : ListState) (bs : List Float) (ns : List ℕ) (h : HoldsClips (cs ++ (b ∷ [])) d bs ns) where
  count : d.depth ≡ length cs + 1
  count = omega (arith, h.depth, length-append cs (b ∷ []))

  top_open : (x : ℕ) → chain bs ns x ≡ cs ++ (b ∷ []) → 0 < x
  top_open zero e = let k : length (chain bs ns 0) ≡ length (cs ++ (b ∷ [])) = ap length e in omega (arith, k, ap length (chain_none bs ns), length-append cs (b ∷ []))
  top_open (suc x) e = omega arith

  some : 0 < d.top
  some = top_open d.top h.chained

  popped : popped_clip d ns ≡ record { clips = d.clips; top = below_at ns d.top; depth = d.depth - 1; commands = d.commands }
  unfolding popped_clip
  popped =
      pick_false (eqb d.depth 0) _ _ (ne_eqb d.depth 0 (λ e. omega (arith, count)))
      ∙ (λ i. record { clips = d.clips; top = pick_false (eqb d.top 0) 0 (below_at ns d.top) (ne_eqb d.top 0 (λ e. omega (arith, some))) i; depth = d.depth - 1; commands = d.commands })

  pub held_pop : HoldsClips cs (popped_clip d ns) bs ns
  held_pop = rw popped (let l = h.clips.chained.lower (d.top - 1) (omega (arith, some, h.low)) in record {
    clips = h.clips;
    low = omega (arith, some, h.low);
    chained = snoc_same (chain bs ns (below_at ns d.top)) cs (clip_at bs d.top) b (sym (chain_step d.clips bs ns h.clips.chained d.top some h.low) ∙ h.chained);
    depth = omega (arith, count);
  })

-- ---- boxes under the open clips
module _ (cs : List Rect) (d : ListState) (bs : List Float) (ns : List ℕ) (h : HoldsClips cs d bs ns) where
  pub open_rect_is : (b : Rect) → open_rect d bs b ≡ clipped cs b
  unfolding open_rect
  open_rect_is b =
      let l : d.top ≤ length bs / 8 = omega (arith, h.low, h.clips.chained.boxes) in
      pick_true _ (clip_rect bs d.top b) b (le-leb d.top (length bs / 8) l) ∙ clip_rect_is d.clips bs ns h.clips d.top h.low b ∙ ap (λ (z : List Rect). clipped z b) h.chained

-- a glyph's box, read from the space, is that of a command with the clips up to that number
pub glyph_bounds_is : (n : ℕ) (bs : List Float) (ns : List ℕ) → Clips n bs ns → (x : ℕ) → x ≤ n → (draw : DrawCommand) (gs : List Glyph) (g : Glyph) → window_glyph_bounds bs x (transform_of draw) g.bounds ≡ glyph_bounds (record { draw = draw; glyphs = gs; clips = chain bs ns x }) g
unfolding window_glyph_bounds glyph_bounds
glyph_bounds_is n bs ns c x l draw gs g = clip_rect_is n bs ns c x l (transform_rect_bbox (transform_of draw) g.bounds)
