-- Inputs that agree have as many commands and as many glyphs, so that their items fit alike where their clips do. Assumes nothing.
use mathlib.Core.Path.{◌≡◌, refl, sym, ◌∙◌, subst}
use mathlib.Core.Bool.{◌&&◌}
use mathlib.Core.List.{List, [], ◌∷◌}
use Prim.Native.Nat.{ℕ, ◌+◌}
use lib.Dec.{leb}
use Rattle.std.specs.Prelude.{Ok}
use Rattle.base_lists.specs.Places.{ByPlace}
use Rattle.base_lists.proofs.Places.{place_length}
use Rattle.base_lists.proofs.Relations.{Passes}
use Rattle.display_list_commands.specs.Bounds.{Command}
use Rattle.display_list_operand_equality.specs.Operands.{equal_glyph}
use Rattle.display_list_operand_equality.proofs.Compared.{glyphs_told}
use Rattle.display_list_equality.proofs.Compared.{equal_parts}
use Rattle.strip.specs.declared.Cursor.{Cursor}
use Rattle.strip.specs.Steps.{start_at}
use Rattle.strip.specs.Reading.{commands_of}
use Rattle.strip_laws.specs.Limits.{WhereRead}
use Rattle.strip_laws.proofs.Counts.{glyph_total, Counted, strip_counted}
use Rattle.strip_frame.specs.declared.Strips.{Strips}
use Rattle.strip_frame.specs.declared.Entry.{Entry}
use Rattle.strip_frame.specs.declared.Entry.TheVariants.{First, Next}
use Rattle.strip_frame.specs.Frame.{old_of, strips_of, old_commands}
use Rattle.strip_frame.proofs.Checks.{strips_told}
use Rattle.plan_answers.specs.Space.{Lent}
use Rattle.plan_answers.specs.Drafts.{items_of}
use Rattle.plan_answers.specs.Answers.{items_fit}
use Rattle.plan_agreement.specs.Agree.{Agree, AgreeAll}
use Rattle.plan_agreement.specs.Plans.{InputsAgree}
use Rattle.plan_agreement.proofs.Agreement.{agree_parts}

-- ---- what the cursors of an input have counted
none_counted : Counted [] (start_at 12)
unfolding glyph_total
none_counted = record { commands = refl; glyphs = refl }

old_counted : (entry : Entry) (s : List ℕ) (c : Cursor) → old_of entry s ≡ Ok c → Counted (old_commands entry s) c
old_counted First s c e = subst (WhereRead (Counted [])) e none_counted
old_counted Next s c e = subst (WhereRead (Counted (commands_of s 12))) e (strip_counted s 12)

both_counted : (entry : Entry) (s : List ℕ) (x : Strips) → strips_of entry s ≡ Ok x → Counted (old_commands entry s) x.old × Counted (commands_of s x.old.at) x.new
both_counted entry s x e =
    let t = strips_told entry s refl e in
    (old_counted entry s x.old t.0, subst (WhereRead (Counted (commands_of s x.old.at))) t.1 (strip_counted s x.old.at))

-- ---- the counts of lists that agree
glyphs_same : (cs ds : List Command) → AgreeAll cs ds → glyph_total cs ≡ glyph_total ds
unfolding glyph_total ByPlace
glyphs_same [] [] h = refl
glyphs_same [] (d ∷ ds) h = absurd h
glyphs_same (c ∷ cs) [] h = absurd h
glyphs_same (c ∷ cs) (d ∷ ds) h =
    let e = place_length (Passes equal_glyph) c.glyphs d.glyphs (glyphs_told c.glyphs d.glyphs (equal_parts c d (agree_parts c d h.0).0).glyphs) in
    λ i. e i + glyphs_same cs ds h.1 i

module _ (cs ds : List Command) (c d : Cursor) (h : Counted cs c) (k : Counted ds d) (a : AgreeAll cs ds) where
  commands_are : c.commands ≡ d.commands
  commands_are = h.commands ∙ place_length Agree cs ds a ∙ sym k.commands

  glyphs_are : c.glyphs ≡ d.glyphs
  glyphs_are = h.glyphs ∙ glyphs_same cs ds a ∙ sym k.glyphs

-- ---- items fit alike
pub items_alike : (z : Lent) (entry : Entry) (s t : List ℕ) (x y : Strips) → InputsAgree z entry s t x y → items_fit z (items_of x.old x.new) ≡ items_fit z (items_of y.old y.new)
unfolding items_fit
items_alike z entry s t x y a =
    let h = both_counted entry s x a.read in
    let k = both_counted entry t y a.other_read in
    let m = commands_are (old_commands entry s) (old_commands entry t) x.old y.old h.0 k.0 a.old_agree in
    let n = commands_are (commands_of s x.old.at) (commands_of t y.old.at) x.new y.new h.1 k.1 a.new_agree in
    let u = glyphs_are (old_commands entry s) (old_commands entry t) x.old y.old h.0 k.0 a.old_agree in
    let v = glyphs_are (commands_of s x.old.at) (commands_of t y.old.at) x.new y.new h.1 k.1 a.new_agree in
    λ i. leb (m i + n i) z.commands && (leb (u i + v i) z.glyphs && a.clips i)
