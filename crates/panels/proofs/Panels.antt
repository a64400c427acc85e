-- L4 and demand 3: whatever the order of the regions, panel B shows what panel A shows. Assumes nothing.
use Rattle.std.proofs.Common.{Some}
use mathlib.Core.Path.{◌≡◌, refl, sym, ◌∙◌, subst}
use mathlib.Core.Bool.{Bool, true, false, ◌&&◌}
use mathlib.Core.Logic.{◌⊎◌, inl, inr, ⊎_elim}
use mathlib.Core.List.{List, [], ◌∷◌, ◌++◌, map}
use mathlib.Core.Option.{Option, none, some}
use Prim.Native.Nat.{ℕ, ◌+◌, ◌-◌}
use native.Mathlib.Omega.{arith}
use lib.Dec.{leb, ltb}
use lib.ListN.{get_or}
use borrow.Author.Tests.{le-leb, lt-ltb}
use Rattle.base_lists.specs.Pick.{pick}
use Rattle.base_lists.specs.Members.{All, Any, In}
use Rattle.base_lists.proofs.Members.{all_map, all_of, any_find, in_all, pairs_with}
use Rattle.std.proofs.lemmas.Bool.{and_from}
use Rattle.base_lists.proofs.Bools.{holds, not_both}
use Rattle.compositor_device.specs.declared.DeviceRegion.{DeviceRegion}
use Rattle.compositor_device.specs.Region.{has}
use Rattle.display_list_commands.specs.Bounds.{Command, bounds}
use Rattle.compositor_rows.specs.Rows.{row_count}
use Rattle.compositor_index_words.specs.Index.{index_words}
use Rattle.compositor_index_words.specs.Painting.{paint_all, paint_at}
use Rattle.compositor_candidates.specs.Table.{candidates, refusal}
use Rattle.compositor_scheduler.specs.Schedule.{schedule}
use Rattle.compositor_schedule_laws.specs.Placed.{Covers, Placed, Clear, Schedulable}
use Rattle.compositor_schedule_laws.proofs.AllBands.{row_band, no_share}
use Rattle.compositor_schedule_laws.proofs.Boxes.{has_covers, boxes_schedulable}
use Rattle.display_list_changes.specs.Changes.{diff_dirty}
use Rattle.panels_painting.specs.Painters.{Pixel, Key, Rules}
use Rattle.panels_painting.proofs.Alike.{Sound}
use Rattle.panels_painting.proofs.Schedules.{candidates_answer, uncovered_alike, candidates_paint}
use Rattle.panels.specs.Panels.{Planner, Frame, Apart, InBand, is_accepted, Used, now, later, OrderedBy, Orders, paint_whole, paint_region, paint_regions, State, start, repaint, step, SamePanels, Planned, Agree, PanelsAgree}
use Rattle.panels.proofs.Plans.{boxes_since, GoodLast, Call, Plans}
use Rattle.compositor_screen.specs.declared.Screen.{Screen}
use Rattle.compositor_screen.specs.Sizes.{fits}
use Rattle.compositor_screen.proofs.Laws.{sizes_of}

-- ---- a region's pixels, as a test and as a record
test_covers : (r : DeviceRegion) (p q : ℕ) → has (Some r) p q ≡ true → Covers p q r
unfolding Any
test_covers r p q e = ⊎_elim (λ c. c) (λ n. absurd n) (has_covers (Some r) p q [] e)

covers_test : (r : DeviceRegion) (p q : ℕ) → Covers p q r → has (Some r) p q ≡ true
covers_test r p q c = and_from (leb r.x p && ltb p (r.x + r.width)) (leb r.y q && ltb q (r.y + r.height))
    (and_from (leb r.x p) (ltb p (r.x + r.width)) (le-leb r.x p c.from_left) (lt-ltb p (r.x + r.width) c.to_right))
    (and_from (leb r.y q) (ltb q (r.y + r.height)) (le-leb r.y q c.from_top) (lt-ltb q (r.y + r.height) c.to_bottom))

module _ (screen : Screen) (P : Planner) (good : P.Strip → Type 0) (L : Plans screen P good) {C : Type 0} (background : C) {M : Command → Type 0} {paint : Command → Pixel screen.width screen.height → C → C} {mark : Key → Pixel screen.width screen.height → C → C} (absent : Command) (R : Rules screen.width screen.height C M paint mark) where
  abbrev shown : List Command → Pixel screen.width screen.height → C
  shown cs px = paint_all (λ c. paint c px) cs background

  -- what a region's candidates make of a pixel
  abbrev region_shows : List Command → List ℕ → Pixel screen.width screen.height → DeviceRegion → C
  region_shows cs words px r = paint_at (λ c. paint c px) (λ i. get_or cs i absent) (candidates screen r.y words) background

  -- L4: F is what each region makes of the pixel that has it. Then the pixel is F, or no region has it and it is as before.
  any_order : (cs : List Command) (words : List ℕ) (px : Pixel screen.width screen.height) (F : C) (rs : List DeviceRegion) (panel : Pixel screen.width screen.height → C)
      → All (λ r. has (Some r) px.p px.q ≡ true → region_shows cs words px r ≡ F) rs
      → (paint_regions P screen background paint absent cs words rs panel px ≡ F) ⊎ ((paint_regions P screen background paint absent cs words rs panel px ≡ panel px) × All (λ r. has (Some r) px.p px.q ≡ false) rs)
  unfolding paint_region paint_all All
  any_order cs words px F [] panel g = inr (refl, tt)
  any_order cs words px F (r ∷ rs) panel g = ⊎_elim
      (λ e. inl e)
      (λ e. go (has (Some r) px.p px.q) refl e.0 e.1)
      (any_order cs words px F rs (paint_region P screen background paint absent cs words r panel) g.1)
    where
      after_all : C
      after_all = paint_regions P screen background paint absent cs words rs (paint_region P screen background paint absent cs words r panel) px

      go : (t : Bool) → has (Some r) px.p px.q ≡ t → after_all ≡ pick t (region_shows cs words px r) (panel px) → All (λ s. has (Some s) px.p px.q ≡ false) rs
          → (after_all ≡ F) ⊎ ((after_all ≡ panel px) × ((has (Some r) px.p px.q ≡ false) × All (λ s. has (Some s) px.p px.q ≡ false) rs))
      go true t e n = inl (e ∙ g.0 t)
      go false t e n = inr (e, (t, n))

  -- ---- an accepted call
  module _ (last : Option P.Strip) (f : Frame P) (call : Call P good last f.strip f.space) where
    abbrev rs : List DeviceRegion
    rs = P.regions last f.strip f.space

    abbrev ns : List Command
    ns = P.commands f.strip

    abbrev words : List ℕ
    words = P.words last f.strip f.space

    sizes : fits screen ≡ true
    sizes = L.sizes last f.strip f.space call

    index : (rest : List ℕ) × (words ≡ index_words screen.band_height (row_count screen.height screen.band_height) (map bounds ns) ++ rest)
    index = L.words last f.strip f.space call

    regions_placed : Schedulable screen rs
    regions_placed = subst (Schedulable screen) (sym (L.regions last f.strip f.space call)) (boxes_schedulable (sizes_of screen sizes) (boxes_since P.commands screen last f.strip))

    -- S2, S3, I3
    planned : Planned P screen background paint absent last f
    planned =
        let S = regions_placed in
        record {
          apart = pairs_with (Placed screen) (Clear screen.band_height) Apart (λ r s x y c p q. no_share screen p q r s x y c) rs S.placed S.clear;
          in_band = all_map (Placed screen) (InBand screen.band_height) (λ r x. sym (row_band screen (r.y + r.height - 1) r x (omega (arith, x.on.some_height)) (omega (arith, x.on.some_height)))) rs S.placed;
          answered = all_map (Placed screen) (λ r. refusal screen r.y words ≡ 0) (candidates_answer screen sizes (map bounds ns) words index.0 index.1) rs S.placed;
        }

    -- L3 for each region that panel B paints
    each_shows : (px : Pixel screen.width screen.height) → All M ns → (order : List DeviceRegion) → All (λ r. In r rs) order → All (λ r. has (Some r) px.p px.q ≡ true → region_shows ns words px r ≡ shown ns px) order
    each_shows px m order i =
        all_map (λ r. In r rs) (λ r. has (Some r) px.p px.q ≡ true → region_shows ns words px r ≡ shown ns px)
        (λ r j e. candidates_paint screen sizes R px ns m (L.sound last f.strip f.space call) words index.0 index.1 r (in_all (Placed screen) r rs j regions_placed.placed) (test_covers r px.p px.q e) absent background)
        order i

  -- ---- the trace
  -- panel A shows the last accepted strip, whose commands the rules speak of
  abbrev Shown : Option P.Strip → (Pixel screen.width screen.height → C) → Type 0
  Shown none panel = Unit {0}
  Shown (some old) panel = ((px : Pixel screen.width screen.height) → panel px ≡ shown (P.commands old) px) × All M (P.commands old) × All Sound (P.commands old)

  -- panel B at an accepted frame
  repainted : (last : Option P.Strip) (f : Frame P) (panel_a panel_b : Pixel screen.width screen.height → C) → Call P good last f.strip f.space → OrderedBy P last f → All M (P.commands f.strip) → ((px : Pixel screen.width screen.height) → panel_a px ≡ panel_b px) → Shown last panel_a
      → (px : Pixel screen.width screen.height) → shown (P.commands f.strip) px ≡ repaint P screen background paint absent last f panel_b px
  unfolding paint_whole
  repainted none f panel_a panel_b call ord m same sh px = refl
  repainted (some old) f panel_a panel_b call ord m same sh px = sym (⊎_elim
      (λ e. e)
      (λ e. e.0 ∙ sym (same px) ∙ sh.0 px ∙ uncovered_alike screen (sizes (some old) f call) R px (P.commands old) (P.commands f.strip) sh.1 m sh.2 (L.sound (some old) f.strip f.space call) (uncovered e.1) background)
      (any_order (P.commands f.strip) (P.words (some old) f.strip f.space) px (shown (P.commands f.strip) px) f.order panel_b
      (each_shows (some old) f call px m f.order ord.only)))
    where
      -- no region in the order has the pixel, so no region has it
      uncovered : All (λ r. has (Some r) px.p px.q ≡ false) f.order → Any (Covers px.p px.q) (schedule screen (diff_dirty (P.commands old) (P.commands f.strip))) → ⊥
      uncovered n a =
          let z = any_find (Covers px.p px.q) (P.regions (some old) f.strip f.space) (subst (Any (Covers px.p px.q)) (sym (L.regions (some old) f.strip f.space call)) a) in
          let i = in_all (λ r. In r f.order) z.0 (P.regions (some old) f.strip f.space) z.1 ord.each in
          not_both (has (Some z.0) px.p px.q) (in_all (λ r. has (Some r) px.p px.q ≡ false) z.0 f.order i n) (holds _ (covers_test z.0 px.p px.q z.2))

  panels_from : (s : State P screen background paint absent) (fs : List (Frame P)) → SamePanels P screen background paint absent s → GoodLast good s.last → Shown s.last s.panel_a → ((c : Command) → Used P s.last fs c → M c) → Orders P s.last fs → Agree P screen background paint absent s fs
  unfolding step
  panels_from s [] same gl sh used ord = same
  panels_from s (f ∷ fs) same gl sh used ord =
      (same, λ acc. planned s.last f (record { good_last = gl; no_number = acc }), go (is_accepted P s.last f) refl (λ c u. used c (later u)) ord.1 (λ t x g y u o. panels_from t fs x g y u o))
    where
      next : State P screen background paint absent
      next = record { last = some f.strip; panel_a = paint_whole P screen background paint absent (P.commands f.strip); panel_b = repaint P screen background paint absent s.last f s.panel_b }

      go : (t : Bool) → is_accepted P s.last f ≡ t → ((c : Command) → Used P (pick t (some f.strip) s.last) fs c → M c) → Orders P (pick t (some f.strip) s.last) fs
          → ((t : State P screen background paint absent) → SamePanels P screen background paint absent t → GoodLast good t.last → Shown t.last t.panel_a → ((c : Command) → Used P t.last fs c → M c) → Orders P t.last fs → Agree P screen background paint absent t fs)
          → Agree P screen background paint absent (pick t next s) fs
      go false e u o rec = rec s same gl sh u o
      go true e u o rec =
          let m : All M (P.commands f.strip) = all_of M (P.commands f.strip) (λ c i. used c (now e i)) in
          let call : Call P good s.last f.strip f.space = record { good_last = gl; no_number = e } in
          let shows : (px : Pixel screen.width screen.height) → paint_whole P screen background paint absent (P.commands f.strip) px ≡ shown (P.commands f.strip) px = λ px. unfold paint_whole in refl in
          rec next (λ px. shows px ∙ repainted s.last f s.panel_a s.panel_b call (ord.0 e) m same sh px) (L.one_strip s.last f.strip f.space call) (shows, m, L.sound s.last f.strip f.space call) u o

-- Demand 3. The glyph rule is not used: a glyph is painted by its key, which has no box, and rule (iv) is asked of every glyph that occurs.
pub plans_agree : (screen : Screen) (P : Planner) (good : P.Strip → Type 0) → Plans screen P good → PanelsAgree screen P
plans_agree screen P good L frames C background paint mark absent R glyphs ord =
    panels_from screen P good L background absent R (start P screen background paint absent) frames (λ px. refl) tt tt (λ c u. u) ord
