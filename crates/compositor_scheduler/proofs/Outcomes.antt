-- What a caller of `schedule` learns from each of its answers, and from the words. Assumes nothing.
use mathlib.Core.Path.{◌≡◌, refl, sym, ap, ◌∙◌}
use mathlib.Core.Bool.{Bool, true, false}
use mathlib.Core.List.{List, ◌++◌}
use Prim.Native.Nat.{ℕ, ◌*◌, ◌/◌, ◌≤◌, ◌<◌}
use native.Mathlib.Omega.{arith}
use borrow.Author.Tests.{leb-true, leb-false}
use lib.Dec.{leb}
use lib.ListN.{length, take, drop}
use lib.Seq.{take_at}
use Rattle.base_lists.specs.Pick.{pick}
use Rattle.compositor_device.specs.declared.DeviceRegion.{DeviceRegion}
use Rattle.std.proofs.Common.{Option, Some, None}
use Rattle.compositor_scheduler.specs.declared.Totals.{Totals}
use Rattle.compositor_scheduler.specs.Schedule.{pixels_of, words_of_regions, Answers}
use Rattle.compositor_scheduler.proofs.Writes.{words_length}

-- the counts are the schedule's, its words stand in front, and the rest is as it was
pub record Listed (l : List DeviceRegion) (before : List ℕ) (count pixels : ℕ) (after : List ℕ) : Type 0 where
  pub fits : 4 * count ≤ length before
  pub count_is : count ≡ length l
  pub pixels_are : pixels ≡ pixels_of l
  pub words_are : after ≡ words_of_regions l ++ drop (4 * count) before

module _ (l : List DeviceRegion) (before after : List ℕ) where
  pub answered : (t : Totals) → Answers l before (Some t) after → Listed l before t.regions t.pixels after
  answered s a = go (leb (length l) (length before / 4)) refl a.answer
    where
      go : (t : Bool) → leb (length l) (length before / 4) ≡ t → Some s ≡ pick t (Some (record { regions = length l; pixels = pixels_of l })) None → Listed l before s.regions s.pixels after
      go true e q =
          let h : length l ≤ length before / 4 = leb-true (length l) (length before / 4) e in
          let same : s ≡ record { regions = length l; pixels = pixels_of l } = cc in
          let n : s.regions ≡ length l = ap (λ z. z.regions) same in
          let p : s.pixels ≡ pixels_of l = ap (λ z. z.pixels) same in
          record { fits = omega arith; count_is = n; pixels_are = p; words_are = rw n (a.words h) }
      go false e q = let z : ◌≡◌ {A = ℕ} 0 1 = cc in absurd (omega arith)

  -- there is no room
  pub refused : Answers l before None after → length before / 4 < length l
  refused a = go (leb (length l) (length before / 4)) refl a.answer
    where
      go : (t : Bool) → leb (length l) (length before / 4) ≡ t → ◌≡◌ {A = Option Totals} None (pick t (Some (record { regions = length l; pixels = pixels_of l })) None) → length before / 4 < length l
      go true e q = let z : ◌≡◌ {A = ℕ} 0 1 = cc in absurd (omega arith)
      go false e q = leb-false (length l) (length before / 4) e

  -- the words in front
  pub front_words : (count pixels : ℕ) → Listed l before count pixels after → take (4 * count) after ≡ words_of_regions l
  front_words count pixels a = ap (take (4 * count)) a.words_are ∙ take_at (words_of_regions l) (drop (4 * count) before) (4 * count) (words_length l ∙ ap (λ t. 4 * t) (sym a.count_is))
