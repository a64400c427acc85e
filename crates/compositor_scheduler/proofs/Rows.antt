-- The turns of the loop over the bands. Assumes nothing.
use mathlib.Core.Path.{◌≡◌, refl, sym, ap, ◌∙◌, subst}
use mathlib.Core.List.{List, ◌++◌, map}
use Prim.Native.Nat.{ℕ, zero, suc, ◌+◌, ◌-◌, ◌*◌, ◌/◌, ◌≤◌, ◌<◌}
use native.Mathlib.Nat.{le-div_iff_mul-le, suc-mul, div-le_self}
use native.Mathlib.Numerals.{add-one}
use native.Mathlib.Omega.{arith}
use borrow.Author.Tests.{le-leb, lt-leb}
use lib.ListN.{length, take, drop, length-append, length-map}
use lib.Seq.{length-take-le}
use Rattle.base_lists.specs.Members.{All}
use Rattle.base_lists.proofs.Picks.{by_le}
use Rattle.compositor_device.specs.declared.DeviceRegion.{DeviceRegion}
use Rattle.compositor_device.specs.Region.{Fit}
use Rattle.compositor_rows.specs.Rows.{row_count}
use Rattle.compositor_screen.specs.declared.Screen.{Screen}
use Rattle.compositor_screen.proofs.Laws.{Fits}
use Rattle.compositor_bands.specs.Bands.{band_regions}
use Rattle.compositor_bands.specs.Keys.{from_yx}
use Rattle.compositor_bands.proofs.Cuts.{band_few}
use Rattle.std.proofs.Common.{Some, None}
use Rattle.compositor_scheduler.specs.Schedule.{band_from, bands_to, schedule_of, pixels_of, words_of_regions, Answers}
use Rattle.compositor_scheduler.proofs.Writes.{words_append, words_length, pixels_append, pixels_most, put_behind}

-- ---- rows and bands

-- a band's first row is on the screen just where the band is one of the screen's
pub row_of_band : (h b j : ℕ) → 0 < b → j < row_count h b → j * b < h
row_of_band h b j p g = let q = (le-div_iff_mul-le {k = b} {x = suc j} {y = h + (b - 1)} p).0 g in omega (arith, q, suc-mul j b)

pub band_of_row : (h b j : ℕ) → 0 < b → j * b < h → j < row_count h b
band_of_row h b j p g = (le-div_iff_mul-le {k = b} {x = suc j} {y = h + (b - 1)} p).1 (omega (arith, suc-mul j b))

pub next_row : (b j : ℕ) → (j + 1) * b ≡ j * b + b
next_row b j = rw (add-one j) (suc-mul j b)

module _ (s : Screen) (l : List DeviceRegion) where
  pub bands_next : (j : ℕ) → bands_to s l (j + 1) ≡ bands_to s l j ++ band_regions (band_from s (j * s.band_height)) l
  unfolding bands_to
  bands_next j = rw (add-one j) refl

  -- more bands have no fewer regions
  bands_grow : (j k : ℕ) → j ≤ k → length (bands_to s l j) ≤ length (bands_to s l k)
  unfolding bands_to
  bands_grow j zero g = let e : j ≡ 0 = omega arith in rw e (omega arith)
  bands_grow j (suc k) g = by_le j k
      (λ q. omega (arith, bands_grow j k q, length-append (bands_to s l k) (band_regions (band_from s (k * s.band_height)) l)))
      (λ q. let e : j ≡ suc k = omega arith in rw e (omega arith))

-- ---- the loop

-- j bands from the top are written to out: `count` regions with `pixels` pixels.
pub record SchedulingSoFar (s : Screen) (l : List DeviceRegion) (old out : List ℕ) (j count pixels : ℕ) : Type 0 where
  pub sizes : Fits s
  pub all_fit : All Fit l
  pub bands_most : j ≤ row_count s.height s.band_height
  pub same_length : length out ≡ length old
  pub room : count ≤ length old / 4
  pub count_is : count ≡ length (bands_to s l j)
  pub pixels_are : pixels ≡ pixels_of (bands_to s l j)
  pub pixels_few : pixels ≤ 140737488355328 * j
  pub words_are : out ≡ words_of_regions (bands_to s l j) ++ drop (4 * count) old

-- The m regions of band j, in front of `work`.
pub record Banded (s : Screen) (l : List DeviceRegion) (j : ℕ) (work : List ℕ) (m : ℕ) : Type 0 where
  pub on : j < row_count s.height s.band_height
  pub source : m ≤ length work
  pub regions : map from_yx (take m work) ≡ band_regions (band_from s (j * s.band_height)) l

pub banded : {s : Screen} {j e k m n : ℕ} {l : List DeviceRegion} {work : List ℕ} {band : DeviceRegion} → e ≡ row_count s.height s.band_height → j < e → n ≤ k → length work ≡ k → band ≡ band_from s (j * s.band_height) → (m ≤ n) × (map from_yx (take m work) ≡ band_regions band l) → Banded s l j work m
banded {l = l} end on room same band r = record { on = omega arith; source = omega (arith, r.0); regions = r.1 ∙ ap (λ t. band_regions t l) band }

pub taken : {s : Screen} {j m : ℕ} {l : List DeviceRegion} {work : List ℕ} → Banded s l j work m → length (take m work) ≡ m
taken {m = m} {work = work} n = length-take-le m work n.source

pub going_start : (s : Screen) (l : List DeviceRegion) (old : List ℕ) → Fits s → All Fit l → SchedulingSoFar s l old old 0 0 0
unfolding bands_to words_of_regions pixels_of
going_start s l old good f = record {
  sizes = good;
  all_fit = f;
  bands_most = omega arith;
  same_length = refl;
  room = omega arith;
  count_is = refl;
  pixels_are = refl;
  pixels_few = omega arith;
  words_are = refl;
}

module _ {s : Screen} {l : List DeviceRegion} {old out : List ℕ} {j count pixels : ℕ} (g : SchedulingSoFar s l old out j count pixels) where
  -- the next band starts on the screen
  pub band_on : j < row_count s.height s.band_height → j * s.band_height < s.height
  band_on = row_of_band s.height s.band_height j g.sizes.some_band

  -- and is within 16 bits
  pub band_fits : j < row_count s.height s.band_height → (band : DeviceRegion) → band ≡ band_from s (j * s.band_height) → Fit band
  band_fits on band e = subst Fit (sym e) (record { wide = omega (arith, g.sizes.width_most); high = omega (arith, g.sizes.height_most, band_on on) })

  -- there are at most 65,535 bands, so their pixels are below 2 ^ 63
  pub pixels_low : pixels ≤ 9223231299366420480
  pixels_low = omega (arith, g.pixels_few, g.bands_most, div-le_self (s.height + (s.band_height - 1)) s.band_height, g.sizes.height_most, g.sizes.band_most)

  module _ {work : List ℕ} {m : ℕ} (n : Banded s l j work m) where
    m_is : m ≡ length (band_regions (band_from s (j * s.band_height)) l)
    m_is = sym (length-map (take m work) from_yx ∙ taken n) ∙ ap length n.regions

    -- a band has no more regions than the screen has columns
    pub m_few : m ≤ 32768
    m_few = omega (arith, m_is, band_few (band_from s (j * s.band_height)) l g.all_fit, g.sizes.width_most)

    -- nor more than 2 ^ 47 pixels
    pub p_few : (p : ℕ) → p ≡ pixels_of (map from_yx (take m work)) → p ≤ 140737488355328
    p_few p e = omega (arith, e, pixels_most (take m work), taken n, m_few)

    one_more : bands_to s l (j + 1) ≡ bands_to s l j ++ map from_yx (take m work)
    one_more = bands_next s l j ∙ ap (λ t. bands_to s l j ++ t) (sym n.regions)

    count_more : count + m ≡ length (bands_to s l (j + 1))
    count_more = omega (arith, g.count_is, ap length (bands_next s l j), length-append (bands_to s l j) (band_regions (band_from s (j * s.band_height)) l), m_is)

    -- they do not fit
    pub going_full : length old / 4 - count < m → (after : List ℕ) → Answers (schedule_of s l) old None after
    going_full over after =
        let k : length (bands_to s l (j + 1)) ≤ length (schedule_of s l) = bands_grow s l (j + 1) (row_count s.height s.band_height) (omega (arith, n.on)) in
        let big : length old / 4 < length (schedule_of s l) = omega (arith, g.room, count_more) in
        record { answer = sym (simp (lt-leb (length (schedule_of s l)) (length old / 4) big)); words = λ z. absurd (omega arith) }

    -- they fit, and are written
    pub going_next : m ≤ length old / 4 - count → (p : ℕ) → p ≡ pixels_of (map from_yx (take m work)) → (next : List ℕ) → length next ≡ length out → next ≡ take (4 * count) out ++ words_of_regions (map from_yx (take m work)) ++ drop (4 * (count + m)) out → SchedulingSoFar s l old next (j + 1) (count + m) (pixels + p)
    going_next fits p ep next len e =
        let z : 4 * (count + m) ≡ 4 * count + 4 * m = omega arith in
        record {
          sizes = g.sizes;
          all_fit = g.all_fit;
          bands_most = omega (arith, n.on);
          same_length = len ∙ g.same_length;
          room = omega (arith, g.room);
          count_is = count_more;
          pixels_are = omega (arith, g.pixels_are, ep, ap pixels_of one_more, pixels_append (bands_to s l j) (map from_yx (take m work)));
          pixels_few = omega (arith, g.pixels_few, p_few p ep);
          words_are = e ∙ rw z (put_behind (words_of_regions (bands_to s l j)) old (words_of_regions (map from_yx (take m work))) out (4 * count) (4 * m) (words_length (bands_to s l j) ∙ omega (arith, g.count_is)) g.words_are
              ∙ ap (λ t. t ++ drop (4 * count + 4 * m) old) (sym (ap words_of_regions one_more ∙ words_append (bands_to s l j) (map from_yx (take m work)))));
        }

  -- past the last band
  pub going_end : row_count s.height s.band_height ≤ j → Answers (schedule_of s l) old (Some (record { regions = count; pixels = pixels })) out
  going_end past =
      let k : j ≡ row_count s.height s.band_height = omega (arith, g.bands_most) in
      let n : count ≡ length (schedule_of s l) = g.count_is ∙ ap (λ t. length (bands_to s l t)) k in
      let x : pixels ≡ pixels_of (schedule_of s l) = g.pixels_are ∙ ap (λ t. pixels_of (bands_to s l t)) k in
      let small : length (schedule_of s l) ≤ length old / 4 = omega (arith, g.room) in
      record {
        answer = rw (le-leb (length (schedule_of s l)) (length old / 4) small) (λ i. Some (record { regions = n i; pixels = x i }));
        words = λ z. rw (← n) (g.words_are ∙ ap (λ t. words_of_regions (bands_to s l t) ++ drop (4 * count) old) k);
      }
