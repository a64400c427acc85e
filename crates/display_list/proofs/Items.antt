-- What the space holds of a command that was pushed, where there is room. Assumes nothing.
use mathlib.Core.Path.{◌≡◌, refl, ap, ◌∙◌}
use mathlib.Core.Bool.{Bool, true, false}
use mathlib.Core.List.{List}
use Prim.Native.Nat.{ℕ, ◌+◌, ◌*◌, ◌≤◌, ◌<◌}
use native.Mathlib.Omega.{arith}
use lib.ListN.{length, set, length-set}
use lib.Seq.{get_or-set_same, get_or-set_other}
use lib.Ieee.{Float}
use Rattle.base_lists.specs.Pick.{pick}
use Rattle.base_lists.proofs.Picks.{pick_true}
use Rattle.kurbo_geometry.specs.declared.Rect.{Rect}
use Rattle.base_rect_words.specs.Words.{put_rect, box_at}
use Rattle.base_rect_words.proofs.Stores.{length_put, rect_same, rect_before}
use Rattle.display_list.specs.declared.ListState.{ListState}
use Rattle.display_list.specs.Lists.{command_room, put_item, item_words, item_boxes, offset_at, clip_number_at}
use Rattle.display_list.proofs.Rooms.{fits_command}

module _ (is : List ℕ) (m offset x : ℕ) (h : 2 * m + 2 ≤ length is) where
  put_offset : offset_at (put_item is m offset x) m ≡ offset
  unfolding put_item
  put_offset = get_or-set_other (set is (2 * m) offset) (2 * m + 1) (2 * m) x 0 (λ e. omega arith) ∙ get_or-set_same is (2 * m) offset 0 (omega arith)

  put_number : clip_number_at (put_item is m offset x) m ≡ x
  unfolding put_item
  put_number = get_or-set_same (set is (2 * m) offset) (2 * m + 1) x 0 (omega (arith, length-set is (2 * m) offset))

  put_offset_kept : (i : ℕ) → i < m → offset_at (put_item is m offset x) i ≡ offset_at is i
  unfolding put_item
  put_offset_kept i l = get_or-set_other (set is (2 * m) offset) (2 * m + 1) (2 * i) x 0 (λ e. omega arith) ∙ get_or-set_other is (2 * m) (2 * i) offset 0 (λ e. omega arith)

  put_number_kept : (i : ℕ) → i < m → clip_number_at (put_item is m offset x) i ≡ clip_number_at is i
  unfolding put_item
  put_number_kept i l = get_or-set_other (set is (2 * m) offset) (2 * m + 1) (2 * i + 1) x 0 (λ e. omega arith) ∙ get_or-set_other is (2 * m) (2 * i + 1) offset 0 (λ e. omega arith)

-- the new command, and those before it
module _ (d : ListState) (is : List ℕ) (bs : List Float) (offset : ℕ) (b : Rect) (p : 2 * d.commands + 2 ≤ length is) (q : 4 * d.commands + 4 ≤ length bs) where
  test : command_room d.commands (length is) (length bs) ≡ true
  test = fits_command d.commands (length is) (length bs) p q

  words : item_words d is bs offset ≡ put_item is d.commands offset d.top
  unfolding item_words
  words = pick_true _ (put_item is d.commands offset d.top) is test

  boxes : item_boxes d is bs b ≡ put_rect bs (4 * d.commands) b
  unfolding item_boxes
  boxes = pick_true _ (put_rect bs (4 * d.commands) b) bs test

  pub push_offset : offset_at (item_words d is bs offset) d.commands ≡ offset
  push_offset = ap (λ (l : List ℕ). offset_at l d.commands) words ∙ put_offset is d.commands offset d.top p

  pub push_number : clip_number_at (item_words d is bs offset) d.commands ≡ d.top
  push_number = ap (λ (l : List ℕ). clip_number_at l d.commands) words ∙ put_number is d.commands offset d.top p

  pub push_box : box_at (item_boxes d is bs b) d.commands ≡ b
  push_box = ap (λ (l : List Float). box_at l d.commands) boxes ∙ rect_same bs (4 * d.commands) b q

  pub offset_kept : (i : ℕ) → i < d.commands → offset_at (item_words d is bs offset) i ≡ offset_at is i
  offset_kept i l = ap (λ (z : List ℕ). offset_at z i) words ∙ put_offset_kept is d.commands offset d.top p i l

  pub number_kept : (i : ℕ) → i < d.commands → clip_number_at (item_words d is bs offset) i ≡ clip_number_at is i
  number_kept i l = ap (λ (z : List ℕ). clip_number_at z i) words ∙ put_number_kept is d.commands offset d.top p i l

  pub box_kept : (i : ℕ) → i < d.commands → box_at (item_boxes d is bs b) i ≡ box_at bs i
  box_kept i l = ap (λ (z : List Float). box_at z i) boxes ∙ rect_before bs (4 * d.commands) (4 * i) b (omega arith)

-- lengths stay, stored or not
pub length_items : (d : ListState) (is : List ℕ) (bs : List Float) (offset : ℕ) → length (item_words d is bs offset) ≡ length is
unfolding item_words put_item
length_items d is bs offset = go (command_room d.commands (length is) (length bs))
  where
    go : (t : Bool) → length (pick t (set (set is (2 * d.commands) offset) (2 * d.commands + 1) d.top) is) ≡ length is
    go true = length-set (set is (2 * d.commands) offset) (2 * d.commands + 1) d.top ∙ length-set is (2 * d.commands) offset
    go false = refl

pub length_item_boxes : (d : ListState) (is : List ℕ) (bs : List Float) (b : Rect) → length (item_boxes d is bs b) ≡ length bs
unfolding item_boxes
length_item_boxes d is bs b = go (command_room d.commands (length is) (length bs))
  where
    go : (t : Bool) → length (pick t (put_rect bs (4 * d.commands) b) bs) ≡ length bs
    go true = length_put bs (4 * d.commands) b
    go false = refl
