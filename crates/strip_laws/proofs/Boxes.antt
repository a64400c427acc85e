-- P3 for boxes: what a step draws is the box of the command that is listed, and that box has finite edges and is never reversed. Assumes nothing.
use mathlib.Core.Path.{◌≡◌, refl, sym, ap, ◌∙◌, subst}
use mathlib.Core.List.{List, [], ◌∷◌}
use Prim.Native.Nat.{ℕ, suc, ◌+◌, ◌-◌, ◌≤◌}
use native.Mathlib.Omega.{arith}
use lib.ListN.{length, get_or}
use borrow.Author.Tests.{le-leb}
use Rattle.base_refusals.specs.declared.Refusal.{Refusal}
use Rattle.base_lists.specs.Members.{All}
use Rattle.base_lists.proofs.Members.{all_map, all_append, all_take}
use Rattle.kurbo_geometry.specs.declared.Rect.{Rect}
use Rattle.kurbo_geometry.proofs.Edges.{Edges}
use Rattle.kurbo_affine.specs.Affines.{try_transform}
use Rattle.display_list_commands.specs.declared.Glyph.{Glyph}
use Rattle.display_list_commands.specs.declared.DrawCommand.{DrawCommand}
use Rattle.display_list_commands.specs.Bounds.{Command, transform_of, glyph_count, united, local_bounds, try_with, bounds, glyph_bounds}
use Rattle.display_list_commands.proofs.Runs.{try_is_local}
use Rattle.display_list_commands.proofs.Clips.{Upright}
use Rattle.display_list_commands.proofs.Finite.{Number, bounds_numbers, bounds_upright, glyph_numbers, glyph_upright}
use Rattle.strip_format.specs.Format.{rect_at, run_at, command_at, glyphs_from}
use Rattle.strip_format.proofs.Lengths.{length_run}
use Rattle.strip.specs.declared.Cursor.{Cursor}
use Rattle.strip.specs.declared.Step.{Step}
use Rattle.strip.specs.declared.Step.TheVariants.{Next, Clip, Pop, Draw, End}
use Rattle.strip.specs.Steps.{start_at, unite, step_at}
use Rattle.strip.specs.Reading.{command_of, Listing, noted, commands_of}
use Rattle.strip_laws.proofs.Steps.{Alone, by_cases, list_keeps}
use Rattle.strip_laws.proofs.Runs.{Shown, GlyphsRead, none_shown, unite_is, next_shown, InRun, step_in_run}
use Rattle.strip_laws.proofs.Numbers.{one_rect, Opens, step_opens}
use Rattle.std.specs.Prelude.{Some, Result, Ok, Err}

-- the glyphs of the command at an offset
abbrev pub glyphs_of : List ℕ → ℕ → List Glyph
glyphs_of s at = glyphs_from s (at + 103) (glyph_count (command_at s at))

-- what is drawn is the transformed box of the command with its glyphs
abbrev pub Boxed : List ℕ → Result Step Refusal → Type 0
Boxed s (Ok (Next t)) = Unit {0}
Boxed s (Ok (Clip t box)) = Unit {0}
Boxed s (Ok (Pop t)) = Unit {0}
Boxed s (Ok (Draw t at box)) = try_transform (transform_of (command_at s at)) (local_bounds (command_at s at) (glyphs_of s at)) ≡ Some box
Boxed s (Ok (End t)) = Unit {0}
Boxed s (Err why) = Unit {0}

no_glyphs : (s : List ℕ) (at : ℕ) → glyphs_from s at 0 ≡ []
unfolding glyphs_from
no_glyphs s at = refl

alone_box : (s : List ℕ) (at : ℕ) (u box : Rect) → Alone s at → try_with (command_at s at) u ≡ Some box → try_transform (transform_of (command_at s at)) (local_bounds (command_at s at) (glyphs_of s at)) ≡ Some box
alone_box s at u box alone f =
    let g : glyphs_of s at ≡ [] = ap (glyphs_from s (at + 103)) alone.none ∙ no_glyphs s (at + 103) in
    ap (λ (gs : List Glyph). try_transform (transform_of (command_at s at)) (local_bounds (command_at s at) gs)) g ∙ sym (try_is_local (command_at s at) u u [] alone.none (λ h. absurd (omega arith))) ∙ f

run_is : (s : List ℕ) (at : ℕ) → get_or s at 0 ≡ 5 → at + 103 ≤ length s → command_at s at ≡ run_at s at
unfolding command_at
run_is s at is h = rw (is, length_run, le-leb (at + 103) (length s) h)

-- a run's united box at its last GLYPH is the union of all its glyph boxes
pub last_united : (s : List ℕ) (st : Cursor) → GlyphsRead s st → st.due ≡ 1 → unite st (rect_at s (st.at + 13)) ≡ local_bounds (command_at s st.run) (glyphs_of s st.run)
last_united s st b one =
    let n : suc b.read ≡ glyph_count (command_at s st.run) = omega (arith, b.left, one) in
    unite_is s st b
    ∙ ap (λ (k : ℕ). united (rect_at s (st.run + 69)) (glyphs_from s (st.run + 103) k)) n
    ∙ ap (λ (x : DrawCommand). local_bounds x (glyphs_of s st.run)) (sym (run_is s st.run b.byte b.fits))

pub step_boxed : (s : List ℕ) (st : Cursor) → InRun s st → Boxed s (step_at s st)
step_boxed s st h = by_cases s st (Boxed s) record {
  refused = λ n p. tt;
  ended = λ due. tt;
  clip = λ d c due. tt;
  pop = λ d due. tt;
  draw = λ len c due alone box f. alone_box s st.at st.united box alone f;
  run = λ c due is fits some. tt;
  glyph = λ g due fits d own o. tt;
  last = λ g fits d own o box f.
      let b = h (omega (arith, d)) in
      let r = run_is s st.run b.byte b.fits in
      let n : glyph_count (command_at s st.run) ≡ suc b.read = omega (arith, b.left, d) in
      let l : local_bounds (command_at s st.run) (glyphs_of s st.run) ≡ unite st (rect_at s (st.at + 13)) = ap (λ (x : DrawCommand). local_bounds x (glyphs_of s st.run)) r ∙ ap (λ (k : ℕ). united (rect_at s (st.run + 69)) (glyphs_from s (st.run + 103) k)) n ∙ sym (unite_is s st b) in
      ap (λ (x : Rect). try_transform (transform_of (command_at s st.run)) x) l ∙ f;
}

-- every glyph of what is drawn has finite corners
abbrev Glyphed : List ℕ → Result Step Refusal → Type 0
Glyphed s (Ok (Next t)) = Unit {0}
Glyphed s (Ok (Clip t box)) = Unit {0}
Glyphed s (Ok (Pop t)) = Unit {0}
Glyphed s (Ok (Draw t at box)) = All (Shown (command_at s at)) (glyphs_of s at)
Glyphed s (Ok (End t)) = Unit {0}
Glyphed s (Err why) = Unit {0}

step_glyphed : (s : List ℕ) (st : Cursor) → InRun s st → Glyphed s (step_at s st)
step_glyphed s st h = by_cases s st (Glyphed s) record {
  refused = λ n p. tt;
  ended = λ due. tt;
  clip = λ d c due. tt;
  pop = λ d due. tt;
  draw = λ len c due alone box f. subst (λ (n : ℕ). All (Shown (command_at s st.at)) (glyphs_from s (st.at + 103) n)) (sym alone.none) (none_shown s (command_at s st.at) (st.at + 103));
  run = λ c due is fits some. tt;
  glyph = λ g due fits d own o. tt;
  last = λ g fits d own o box f.
      let b = h (omega (arith, d)) in
      let n : suc b.read ≡ glyph_count (command_at s st.run) = omega (arith, b.left, d) in
      subst (λ (n : ℕ). All (Shown (command_at s st.run)) (glyphs_from s (st.run + 103) n)) n (next_shown s st b own o);
}

-- ---- the list
-- the box of a command has finite edges and is not reversed, and so are the boxes of its glyphs
pub record Fine (c : Command) : Type 0 where
  pub numbers : Edges Number (bounds c)
  pub upright : Upright (bounds c)
  pub glyphs : All (λ g. Edges Number (glyph_bounds c g) × Upright (glyph_bounds c g)) c.glyphs

pub record FineList (l : Listing) : Type 0 where
  pub clips : All (Edges Number) l.clips
  pub commands : All Fine l.commands

one_fine : (c : Command) → Fine c → All Fine (c ∷ [])
unfolding All
one_fine c h = (h, tt)

glyphs_fine : (c : Command) → All (Edges Number) c.clips → All (Shown c.draw) c.glyphs → All (λ g. Edges Number (glyph_bounds c g) × Upright (glyph_bounds c g)) c.glyphs
glyphs_fine c k h = all_map (Shown c.draw) (λ g. Edges Number (glyph_bounds c g) × Upright (glyph_bounds c g)) (λ g e. (glyph_numbers c k g e.0 e.1, glyph_upright c k g e.0 e.1)) c.glyphs h

noted_fine : (s : List ℕ) (l : Listing) (x : Result Step Refusal) → Opens x → Boxed s x → Glyphed s x → FineList l → FineList (noted s l x)
noted_fine s l (Ok (Next t)) o b y h = h
noted_fine s l (Ok (Clip t box)) o b y h = record { clips = all_append (Edges Number) l.clips (box ∷ []) h.clips (one_rect box o); commands = h.commands }
noted_fine s l (Ok (Pop t)) o b y h = record { clips = all_take (Edges Number) (length l.clips - 1) l.clips h.clips; commands = h.commands }
noted_fine s l (Ok (Draw t at box)) o b y h =
    let c = command_of s at l.clips in
    record { clips = h.clips; commands = all_append Fine l.commands (c ∷ []) h.commands (one_fine c record { numbers = bounds_numbers c h.clips box b; upright = bounds_upright c h.clips box b; glyphs = glyphs_fine c h.clips y }) }
noted_fine s l (Ok (End t)) o b y h = h
noted_fine s l (Err why) o b y h = h

no_fine : FineList (record { clips = []; commands = [] })
unfolding All
no_fine = record { clips = tt; commands = tt }

-- every box of every listed command, and of its glyphs, is made of finite edges and never reversed
pub strip_fine : (s : List ℕ) (at : ℕ) → All Fine (commands_of s at)
strip_fine s at = (list_keeps (InRun s) FineList s (step_in_run s) (λ st l h o. noted_fine s l (step_at s st) (step_opens s st) (step_boxed s st h) (step_glyphed s st h) o) (suc (length s)) (start_at at) (record { clips = []; commands = [] }) (λ k. absurd (omega arith)) no_fine).commands
