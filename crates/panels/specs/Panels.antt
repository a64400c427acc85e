-- The two panels of document 01: frames, what each panel shows after them, and what is claimed of both. Painters and their rules are those of
-- crate `panels_painting`, `candidates` and its refusals those of crate `compositor_candidates`.
use Rattle.std.specs.Prelude.{◌≡◌, Bool, true, List, [], ◌∷◌, ℕ, ◌+◌, ◌-◌, ◌/◌, get_or, Some}
use Rattle.std.proofs.Math.Option.{Option, none, some}
use Rattle.base_lists.specs.Pick.{pick}
use Rattle.base_lists.specs.Members.{All, Pairs, In}
use Rattle.compositor_device.specs.declared.DeviceRegion.{DeviceRegion}
use Rattle.compositor_device.specs.Region.{has}
use Rattle.display_list_commands.specs.Bounds.{Command}
use Rattle.compositor_screen.specs.declared.Screen.{Screen}
use Rattle.compositor_schedule_laws.specs.Placed.{Covers}
use Rattle.compositor_index_words.specs.Painting.{paint_all, paint_at}
use Rattle.compositor_candidates.specs.Table.{candidates, refusal}
use Rattle.panels_painting.specs.Painters.{Pixel, Key, Rules, GlyphRule}

-- ---- frames
-- The two entries under one header, call by call: "Until one is accepted, the first-frame entry gets header and strip; then the other entry gets
-- header, last accepted strip and strip". The last accepted strip is `none` for the first-frame entry.
pub record Planner : Type 1 where
  pub Strip : Type 0
  pub Space : Type 0
  -- "no number's case holds for that call"
  pub accepted : Option Strip → Strip → Space → Bool
  -- the drawing commands of a strip
  pub commands : Strip → List Command
  -- the regions and the index words that an accepted call leaves
  pub regions : Option Strip → Strip → Space → List DeviceRegion
  pub words : Option Strip → Strip → Space → List ℕ

-- "A frame is a strip of any bytes with any lent space"; with it, the order in which panel B paints the regions
pub record Frame (P : Planner) : Type 0 where
  pub strip : P.Strip
  pub space : P.Space
  pub order : List DeviceRegion

-- "for each region": each at least once, and nothing else, in any order
pub record Ordering (regions order : List DeviceRegion) : Type 0 where
  pub each : All (λ r. In r order) regions
  pub only : All (λ r. In r regions) order

-- "Two regions overlap when they share a pixel"
abbrev pub Apart : DeviceRegion → DeviceRegion → Type 0
Apart r s = (p q : ℕ) → Covers p q r → Covers p q s → ⊥

-- "one crosses a band edge when its first and last row lie in different bands": here they lie in one
abbrev pub InBand : ℕ → DeviceRegion → Type 0
InBand b r = r.y / b ≡ (r.y + r.height - 1) / b

module _ (P : Planner) where
  abbrev pub is_accepted : Option P.Strip → Frame P → Bool
  is_accepted last f = P.accepted last f.strip f.space

  -- "A refused frame changes neither panel nor the last accepted strip."
  abbrev pub last_after : Option P.Strip → Frame P → Option P.Strip
  last_after last f = pick (is_accepted last f) (some f.strip) last

  -- "the commands of the list's accepted frames and no others"
  pub data Used : Option P.Strip → List (Frame P) → Command → Type 0 where
    now :
        {last : Option P.Strip} {f : Frame P} {fs : List (Frame P)} {c : Command}
        → is_accepted last f ≡ true → In c (P.commands f.strip) → Used last (f ∷ fs) c
    later : {last : Option P.Strip} {f : Frame P} {fs : List (Frame P)} {c : Command} → Used (last_after last f) fs c → Used last (f ∷ fs) c

  -- the order of an accepted frame is one of its regions; at the first, panel B paints no regions
  abbrev pub OrderedBy : Option P.Strip → Frame P → Type 0
  OrderedBy none f = Unit {0}
  OrderedBy (some old) f = Ordering (P.regions (some old) f.strip f.space) f.order

  abbrev pub Orders : Option P.Strip → List (Frame P) → Type 0
  Orders last [] = Unit {0}
  Orders last (f ∷ fs) = (is_accepted last f ≡ true → OrderedBy last f) × Orders (last_after last f) fs

  -- The header's screen; colours of any type; a painter. `absent` stands at the places past a strip's commands: it is any
  -- command, for no such place is listed.
  module _ (screen : Screen) {C : Type 0} (background : C) (paint : Command → Pixel screen.width screen.height → C → C) (absent : Command) where
    -- "A panel is one colour per pixel"
    abbrev pub Panel : Type 0
    Panel = Pixel screen.width screen.height → C

    -- "every pixel becomes the background, then each command paints in order"
    unfoldable pub paint_whole : List Command → Panel
    paint_whole cs px = paint_all (λ c. paint c px) cs background

    -- "`candidates` gets the header, its y and the plan's index words untouched; its pixels become the background, then the new strip's drawing
    -- commands at the places listed (from 0) paint them in order"
    unfoldable pub paint_region : List Command → List ℕ → DeviceRegion → Panel → Panel
    paint_region cs words r panel px =
        pick (has (Some r) px.p px.q)
        (paint_at (λ c. paint c px) (λ i. get_or cs i absent) (candidates screen r.y words) background)
        (panel px)

    -- one region after the other
    abbrev pub paint_regions : List Command → List ℕ → List DeviceRegion → Panel → Panel
    paint_regions cs words rs panel = paint_all (paint_region cs words) rs panel

    pub record State : Type 0 where
      pub last : Option P.Strip
      pub panel_a : Panel
      pub panel_b : Panel

    -- "at the start the background"
    abbrev pub start : State
    start = record { last = none; panel_a = λ px. background; panel_b = λ px. background }

    -- "Panel B, fed the answers too, does the same at the first accepted frame. Later, for each region, .."
    abbrev pub repaint : Option P.Strip → Frame P → Panel → Panel
    repaint none f panel = paint_whole (P.commands f.strip)
    repaint (some old) f panel = paint_regions (P.commands f.strip) (P.words (some old) f.strip f.space) f.order panel

    -- "A refused frame changes neither panel nor the last accepted strip."
    unfoldable pub step : State → Frame P → State
    step s f =
        pick (is_accepted s.last f)
        (record { last = some f.strip; panel_a = paint_whole (P.commands f.strip); panel_b = repaint s.last f s.panel_b })
        s

    -- ---- what is claimed
    abbrev pub SamePanels : State → Type 0
    SamePanels s = (px : Pixel screen.width screen.height) → s.panel_a px ≡ s.panel_b px

    -- of the regions of an accepted frame, the first one's too: no two overlap, none crosses a band edge, and `candidates` refuses none
    pub record Planned (last : Option P.Strip) (f : Frame P) : Type 0 where
      pub apart : Pairs Apart (P.regions last f.strip f.space)
      pub in_band : All (InBand screen.band_height) (P.regions last f.strip f.space)
      pub answered : All (λ r. refusal screen r.y (P.words last f.strip f.space) ≡ 0) (P.regions last f.strip f.space)

    -- "one statement over the whole list, not one per call": the panels agree before each frame and after the last
    abbrev pub Agree : State → List (Frame P) → Type 0
    Agree s [] = SamePanels s
    Agree s (f ∷ fs) = SamePanels s × (is_accepted s.last f ≡ true → Planned s.last f) × Agree (step s f) fs

-- Demand 3, of a planner under a header: for all frames, all colours and every painter that keeps the rules over the accepted frames
abbrev pub PanelsAgree : Screen → Planner → Type 1
PanelsAgree screen P =
    (frames : List (Frame P)) (C : Type 0) (background : C)
    (paint : Command → Pixel screen.width screen.height → C → C) (mark : Key → Pixel screen.width screen.height → C → C) (absent : Command)
    → Rules screen.width screen.height C (Used P none frames) paint mark
    → GlyphRule (Used P none frames)
    → Orders P none frames
    → Agree P screen background paint absent (start P screen background paint absent) frames
