-- The commands by their byte: document 01's "0 END, 1 CLIP, 2 POP, 3 FILL, 4 STROKE, 5 RUN, 6 GLYPH, 7 SCENE".
use Rattle.std.specs.Prelude.{◌≡◌, ℕ, ◌<◌, eqb, Option, Some, None, Result, MatchResult}
use Rattle.base_lists.specs.Pick.{pick}
use Rattle.strip_format.specs.Layout as Layout
use Rattle.strip_format.specs.declared.Kind.{Kind}
use Rattle.strip_format.specs.declared.Kind.TheVariants.{End, Clip, Pop, Fill, Stroke, Run, Glyph, Scene}

abbrev pub code : Kind → ℕ
code End = Layout.end_code
code Clip = Layout.clip_code
code Pop = Layout.pop_code
code Fill = Layout.fill_code
code Stroke = Layout.stroke_code
code Run = Layout.run_code
code Glyph = Layout.glyph_code
code Scene = Layout.scene_code

-- the kind of a byte, if it is a command's
unfoldable pub kind_of : ℕ → Option Kind
kind_of b =
    pick (eqb b Layout.end_code) (Some End)
    (pick (eqb b Layout.clip_code) (Some Clip)
    (pick (eqb b Layout.pop_code) (Some Pop)
    (pick (eqb b Layout.fill_code) (Some Fill)
    (pick (eqb b Layout.stroke_code) (Some Stroke)
    (pick (eqb b Layout.run_code) (Some Run) (pick (eqb b Layout.glyph_code) (Some Glyph) (pick (eqb b Layout.scene_code) (Some Scene) None)))))))

-- the result is the kind with this byte, or the byte, which is no command's
abbrev pub Decodes : ℕ → Result Kind ℕ → Type 0
Decodes b r = MatchResult r (λ kind. code kind ≡ b) (λ other. (other ≡ b) × (Layout.last_code < b))
