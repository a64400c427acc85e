-- The last accepted strip behind the header reads as one strip, alone and before another; the strip behind it reads as behind the header. Every box that
-- is read has finite edges. Assumes nothing.
use mathlib.Core.Path.{◌≡◌, refl, sym, ◌∙◌, subst}
use mathlib.Core.List.{List, ◌++◌}
use Prim.Native.Nat.{ℕ, ◌+◌, ◌≤◌}
use native.Mathlib.Omega.{arith}
use lib.ListN.{length, length-append}
use Rattle.std.specs.Prelude.{Result, Ok, Err}
use Rattle.base_refusals.specs.declared.Refusal.{Refusal}
use Rattle.base_lists.specs.Members.{All}
use Rattle.base_lists.proofs.Members.{all_map}
use Rattle.kurbo_geometry.proofs.Edges.{Edges, Ordered}
use Rattle.display_list_commands.specs.Bounds.{Command, bounds, glyph_bounds}
use Rattle.display_list_commands.proofs.Clips.{Upright}
use Rattle.display_list_commands.proofs.Finite.{Number, numbers_ordered}
use Rattle.strip.specs.declared.Cursor.{Cursor}
use Rattle.strip.specs.Reading.{read_strip, commands_of}
use Rattle.strip_laws.specs.Limits.{WhereRead, Passed}
use Rattle.strip_laws.proofs.Limits.{strip_passed}
use Rattle.strip_laws.proofs.Boxes.{Fine, strip_fine}
use Rattle.strip_laws.proofs.Fronts.{AnswerAlike, front_read, front_list, behind_answer, behind_list}
use Rattle.panels_painting.proofs.Alike.{Sound}

-- ---- P3
fine_sound : (c : Command) → Fine c → Sound c
fine_sound c f = record {
  box = numbers_ordered (bounds c) f.numbers;
  glyphs = all_map (λ g. Edges Number (glyph_bounds c g) × Upright (glyph_bounds c g)) (λ g. Ordered (glyph_bounds c g)) (λ g e. numbers_ordered (glyph_bounds c g) e.0) c.glyphs f.glyphs;
}

pub strip_sound : (s : List ℕ) (at : ℕ) → All Sound (commands_of s at)
strip_sound s at = all_map Fine Sound fine_sound (commands_of s at) (strip_fine s at)

-- ---- where a strip ends
-- a strip that no byte follows ends with the input
pub ends_there : (s : List ℕ) (at : ℕ) (c : Cursor) → read_strip s at ≡ Ok c → length s ≤ c.at → c.at ≡ length s
ends_there s at c read h = let p = subst (WhereRead (Passed at (length s))) read (strip_passed s at) in omega (arith, p.inside)

-- ---- P2: the same bytes behind two others
-- what is alike an answer that is a cursor is one, and the two are as far apart as the bytes in front
both_read : (by to : ℕ) (d : Cursor) (x y : Result Cursor Refusal) → AnswerAlike by x (Ok d) → AnswerAlike to x y → (f : Cursor) × (y ≡ Ok f) × (f.at + by ≡ to + d.at)
both_read by to d (Ok c) (Ok f) a b = (f, refl, omega (arith, a.at_is, b.at_is))
both_read by to d (Ok c) (Err why) a b = absurd b
both_read by to d (Err why) y a b = absurd a

-- the bytes behind the header read as one strip, to the last
abbrev pub OneStrip : List ℕ → List ℕ → Type 0
OneStrip header s = (c : Cursor) × (read_strip (header ++ s) 12 ≡ Ok c) × (c.at ≡ length (header ++ s))

module _ (header : List ℕ) (twelve : length header ≡ 12) where
  module _ (u s : List ℕ) where
    pub as_alone : commands_of (u ++ s) (length u) ≡ commands_of (header ++ s) 12
    as_alone = behind_list u s ∙ sym (subst (λ (n : ℕ). commands_of (header ++ s) n ≡ commands_of s 0) twelve (behind_list header s))

    pub one_strip : (d : Cursor) → read_strip (u ++ s) (length u) ≡ Ok d → length (u ++ s) ≤ d.at → OneStrip header s
    one_strip d read h =
        let a = subst (AnswerAlike (length u) (read_strip s 0)) read (behind_answer u s) in
        let b = subst (λ (n : ℕ). AnswerAlike n (read_strip s 0) (read_strip (header ++ s) n)) twelve (behind_answer header s) in
        let z = both_read (length u) 12 d (read_strip s 0) (read_strip (header ++ s) 12) a b in
        (z.0, z.1, omega (arith, z.2, twelve, ends_there (u ++ s) (length u) d read h, length-append u s, length-append header s))

  -- ---- P1: the old strip before the new one
  module _ (old s : List ℕ) (good : OneStrip header old) where
    pub old_read : (d : Cursor) × (read_strip ((header ++ old) ++ s) 12 ≡ Ok d) × (d.at ≡ length (header ++ old))
    old_read = let f = front_read (header ++ old) s 12 good.0 good.1 in (f.0, f.1, omega (arith, f.2.at_is, good.2))

    pub old_list : commands_of ((header ++ old) ++ s) 12 ≡ commands_of (header ++ old) 12
    old_list = front_list (header ++ old) s 12 good.0 good.1
