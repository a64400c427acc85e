-- What the tests of commands compare; so they go both ways and follow on themselves, and of commands that are equal, run sizes by bits, each says the same.
-- Assumes nothing.
use mathlib.Core.Path.{◌≡◌, refl, subst}
use mathlib.Core.Bool.{Bool, ◌&&◌}
use mathlib.Core.Logic.{inl}
use mathlib.Core.List.{[], ◌∷◌, ◌++◌}
use Prim.Native.Nat.{ℕ}
use lib.Dec.{T, eqb, eqb_refl}
use lib.Ieee.{Float, binary32, eq, of_bits}
use lib.Ieee.Fits.{and_i, and_l, and_r}
use Rattle.base_lists.specs.Places.{ByPlace}
use Rattle.base_lists.proofs.Bools.{same_bool}
use Rattle.base_lists.proofs.Relations.{Per, Passes, per_same, per_as}
use Rattle.base_ieee.proofs.Values.{value_same}
use Rattle.base_ieee.proofs.Comparisons.{Equals, Compares, Fields, per_compared, number_field, float_field, record_field, both_fields}
use Rattle.kurbo_geometry.specs.declared.Rect.{Rect}
use Rattle.kurbo_geometry.specs.Boxes.{same_edges}
use Rattle.kurbo_affine.specs.declared.Affine.{Affine}
use Rattle.display_list_commands.specs.declared.Stroke.{Stroke}
use Rattle.display_list_commands.specs.declared.DrawCommand.{DrawCommand}
use Rattle.display_list_commands.specs.declared.DrawCommand.TheVariants.{FillPath, StrokePath, GlyphRun, Scene}
use Rattle.display_list_commands.specs.Bounds.{Command}
use Rattle.display_list_commands.specs.Sizes.{size_of}
use Rattle.display_list_operand_equality.specs.Operands.{same_affine, same_stroke, same_bits, same_path, equal_glyphs, same_clips}
use Rattle.display_list_operand_equality.specs.Fields.{edges_of, entries_of, stroke_numbers, stroke_floats}
use Rattle.display_list_operand_equality.proofs.Compared.{edges_fields, affine_fields, stroke_fields, bits_fields, per_bits, per_glyphs, per_clips}
use Rattle.display_list_equality.specs.Drawings.{same_fill, same_stroked, same_run, same_scene, run_alike, same_drawing, fills_alike, runs_alike, equal, runs_alike_clipped}
use Rattle.display_list_equality.specs.Fields.{numbers_of, floats_of}

-- ---- the operands of each kind of command
abbrev Path : Type 0
Path = ℕ × Rect × Affine × ℕ

abbrev Run : Type 0
Run = ℕ × Float × Affine × ℕ × Rect

abbrev Content : Type 0
Content = ℕ × ℕ × ℕ × Affine × Rect

path_fields : Fields (λ (u v : Path). same_path u.0 u.1 u.2 u.3 v.0 v.1 v.2 v.3) (λ u. u.0 ∷ u.3 ∷ []) (λ u. edges_of u.1 ++ entries_of u.2)
unfolding same_path
path_fields = both_fields
    (both_fields (number_field (λ (u : Path). u.0)) (record_field (λ (u : Path). u.1) edges_fields))
    (both_fields (record_field (λ (u : Path). u.2) affine_fields) (number_field (λ (u : Path). u.3)))

stroked_fields : Fields (λ (u v : Path × Stroke). same_path u.0.0 u.0.1 u.0.2 u.0.3 v.0.0 v.0.1 v.0.2 v.0.3 && same_stroke u.1 v.1)
    (λ u. u.0.0 ∷ u.0.3 ∷ stroke_numbers u.1) (λ u. edges_of u.0.1 ++ entries_of u.0.2 ++ stroke_floats u.1)
stroked_fields = both_fields (record_field (λ (u : Path × Stroke). u.0) path_fields) (record_field (λ (u : Path × Stroke). u.1) stroke_fields)

run_fields : Fields (λ (u v : Run). (eqb u.0 v.0 && eq u.1 v.1) && (same_affine u.2 v.2 && eqb u.3 v.3) && same_edges u.4 v.4) (λ u. u.0 ∷ u.3 ∷ []) (λ u. u.1 ∷ (entries_of u.2 ++ edges_of u.4))
run_fields = both_fields
    (both_fields (both_fields (number_field (λ (u : Run). u.0)) (float_field (λ (u : Run). u.1))) (both_fields (record_field (λ (u : Run). u.2) affine_fields) (number_field (λ (u : Run). u.3))))
    (record_field (λ (u : Run). u.4) edges_fields)

content_fields : Fields (λ (u v : Content). (eqb u.0 v.0 && eqb u.1 v.1) && (eqb u.2 v.2 && same_affine u.3 v.3) && same_edges u.4 v.4) (λ u. u.0 ∷ u.1 ∷ u.2 ∷ []) (λ u. entries_of u.3 ++ edges_of u.4)
content_fields = both_fields
    (both_fields (both_fields (number_field (λ (u : Content). u.0)) (number_field (λ (u : Content). u.1))) (both_fields (number_field (λ (u : Content). u.2)) (record_field (λ (u : Content). u.3) affine_fields)))
    (record_field (λ (u : Content). u.4) edges_fields)

-- ---- drawings
no_size : T (eq (of_bits binary32 0) (of_bits binary32 0))
unfolding of_bits
no_size = value_same (of_bits binary32 0) (of_bits binary32 0) tt (inl refl)

-- different numbers are not equal
clash : (m n : ℕ) → m ≡ n → T (eqb m n)
clash m n e = subst (λ k. T (eqb m k)) e (eqb_refl m)

drawing_told : (c d : DrawCommand) → T (same_drawing c d) → ByPlace ◌≡◌ (numbers_of c) (numbers_of d) × Equals (size_of c ∷ floats_of c) (size_of d ∷ floats_of d)
unfolding same_drawing same_fill same_stroked same_run same_scene ByPlace
drawing_told (FillPath n b t k) (FillPath n' b' t' k') h = ((refl, path_fields.compares.numbers_told (n, b, t, k) (n', b', t', k') h), (no_size, path_fields.compares.floats_told (n, b, t, k) (n', b', t', k') h))
drawing_told (FillPath n b t k) (StrokePath n' b' t' s' k') h = absurd h
drawing_told (FillPath n b t k) (GlyphRun f' z' t' k' b' i') h = absurd h
drawing_told (FillPath n b t k) (Scene x' g' y' t' b') h = absurd h
drawing_told (StrokePath n b t s k) (FillPath n' b' t' k') h = absurd h
drawing_told (StrokePath n b t s k) (StrokePath n' b' t' s' k') h = ((refl, stroked_fields.compares.numbers_told ((n, b, t, k), s) ((n', b', t', k'), s') h), (no_size, stroked_fields.compares.floats_told ((n, b, t, k), s) ((n', b', t', k'), s') h))
drawing_told (StrokePath n b t s k) (GlyphRun f' z' t' k' b' i') h = absurd h
drawing_told (StrokePath n b t s k) (Scene x' g' y' t' b') h = absurd h
drawing_told (GlyphRun f z t k b i) (FillPath n' b' t' k') h = absurd h
drawing_told (GlyphRun f z t k b i) (StrokePath n' b' t' s' k') h = absurd h
drawing_told (GlyphRun f z t k b i) (GlyphRun f' z' t' k' b' i') h = ((refl, run_fields.compares.numbers_told (f, z, t, k, b) (f', z', t', k', b') h), run_fields.compares.floats_told (f, z, t, k, b) (f', z', t', k', b') h)
drawing_told (GlyphRun f z t k b i) (Scene x' g' y' t' b') h = absurd h
drawing_told (Scene x g y t b) (FillPath n' b' t' k') h = absurd h
drawing_told (Scene x g y t b) (StrokePath n' b' t' s' k') h = absurd h
drawing_told (Scene x g y t b) (GlyphRun f' z' t' k' b' i') h = absurd h
drawing_told (Scene x g y t b) (Scene x' g' y' t' b') h = ((refl, content_fields.compares.numbers_told (x, g, y, t, b) (x', g', y', t', b') h), (no_size, content_fields.compares.floats_told (x, g, y, t, b) (x', g', y', t', b') h))

drawing_tells : (c d : DrawCommand) → ByPlace ◌≡◌ (numbers_of c) (numbers_of d) → Equals (size_of c ∷ floats_of c) (size_of d ∷ floats_of d) → T (same_drawing c d)
unfolding same_drawing same_fill same_stroked same_run same_scene ByPlace
drawing_tells (FillPath n b t k) (FillPath n' b' t' k') m e = path_fields.compares.tells (n, b, t, k) (n', b', t', k') m.1 e.1
drawing_tells (FillPath n b t k) (StrokePath n' b' t' s' k') m e = absurd (clash 3 4 m.0)
drawing_tells (FillPath n b t k) (GlyphRun f' z' t' k' b' i') m e = absurd (clash 3 5 m.0)
drawing_tells (FillPath n b t k) (Scene x' g' y' t' b') m e = absurd (clash 3 7 m.0)
drawing_tells (StrokePath n b t s k) (FillPath n' b' t' k') m e = absurd (clash 4 3 m.0)
drawing_tells (StrokePath n b t s k) (StrokePath n' b' t' s' k') m e = stroked_fields.compares.tells ((n, b, t, k), s) ((n', b', t', k'), s') m.1 e.1
drawing_tells (StrokePath n b t s k) (GlyphRun f' z' t' k' b' i') m e = absurd (clash 4 5 m.0)
drawing_tells (StrokePath n b t s k) (Scene x' g' y' t' b') m e = absurd (clash 4 7 m.0)
drawing_tells (GlyphRun f z t k b i) (FillPath n' b' t' k') m e = absurd (clash 5 3 m.0)
drawing_tells (GlyphRun f z t k b i) (StrokePath n' b' t' s' k') m e = absurd (clash 5 4 m.0)
drawing_tells (GlyphRun f z t k b i) (GlyphRun f' z' t' k' b' i') m e = run_fields.compares.tells (f, z, t, k, b) (f', z', t', k', b') m.1 e
drawing_tells (GlyphRun f z t k b i) (Scene x' g' y' t' b') m e = absurd (clash 5 7 m.0)
drawing_tells (Scene x g y t b) (FillPath n' b' t' k') m e = absurd (clash 7 3 m.0)
drawing_tells (Scene x g y t b) (StrokePath n' b' t' s' k') m e = absurd (clash 7 4 m.0)
drawing_tells (Scene x g y t b) (GlyphRun f' z' t' k' b' i') m e = absurd (clash 7 5 m.0)
drawing_tells (Scene x g y t b) (Scene x' g' y' t' b') m e = content_fields.compares.tells (x, g, y, t, b) (x', g', y', t', b') m.1 e.1

pub drawing_compared : Compares same_drawing numbers_of (λ c. size_of c ∷ floats_of c)
drawing_compared = record { numbers_told = λ c d h. (drawing_told c d h).0; floats_told = λ c d h. (drawing_told c d h).1; tells = drawing_tells }

pub per_drawing : Per (Passes same_drawing)
per_drawing = per_compared drawing_compared

-- what equality says, part by part
pub record Parts (c d : Command) : Type 0 where
  pub draw : T (same_drawing c.draw d.draw)
  pub glyphs : T (equal_glyphs c.glyphs d.glyphs)
  pub clips : T (same_clips c.clips d.clips)

module _ (c d : Command) where
  pub equal_parts : T (equal c d) → Parts c d
  unfolding equal
  equal_parts t =
      let x = same_drawing c.draw d.draw in
      let y = equal_glyphs c.glyphs d.glyphs in
      let z = same_clips c.clips d.clips in
      let u = and_l (x && y) z t in
      record { draw = and_l x y u; glyphs = and_r x y u; clips = and_r (x && y) z t }

  pub parts_equal : Parts c d → T (equal c d)
  unfolding equal
  parts_equal p =
      let x = same_drawing c.draw d.draw in
      let y = equal_glyphs c.glyphs d.glyphs in
      let z = same_clips c.clips d.clips in
      and_i (x && y) z (and_i x y p.draw p.glyphs) p.clips

parts_per : Per Parts
parts_per = record {
  flip = λ c d p. record { draw = per_drawing.flip c.draw d.draw p.draw; glyphs = per_glyphs.flip c.glyphs d.glyphs p.glyphs; clips = per_clips.flip c.clips d.clips p.clips };
  chain = λ c d e p q. record {
    draw = per_drawing.chain c.draw d.draw e.draw p.draw q.draw;
    glyphs = per_glyphs.chain c.glyphs d.glyphs e.glyphs p.glyphs q.glyphs;
    clips = per_clips.chain c.clips d.clips e.clips p.clips q.clips;
  };
}

pub per_equal : Per (Passes equal)
per_equal = per_as (Passes equal) Parts equal_parts parts_equal parts_per

-- ---- of equal commands each test says the same
-- fills alike are the same drawing, and fills
fills_go : (c d c' d' : DrawCommand) → T (same_drawing c c') → T (same_drawing d d') → T (fills_alike c d) → T (fills_alike c' d')
unfolding fills_alike same_drawing same_fill
fills_go (FillPath n b t k) d (FillPath n' b' t' k') d' h j a = per_drawing.chain (FillPath n' b' t' k') d d' (per_drawing.chain (FillPath n' b' t' k') (FillPath n b t k) d (per_drawing.flip (FillPath n b t k) (FillPath n' b' t' k') h) a) j
fills_go (FillPath n b t k) d (StrokePath n' b' t' s' k') d' h j a = absurd h
fills_go (FillPath n b t k) d (GlyphRun f' z' t' k' b' i') d' h j a = absurd h
fills_go (FillPath n b t k) d (Scene x' g' y' t' b') d' h j a = absurd h
fills_go (StrokePath n b t s k) d c' d' h j a = absurd a
fills_go (GlyphRun f z t k b i) d c' d' h j a = absurd a
fills_go (Scene x g y t b) d c' d' h j a = absurd a

-- what counts of runs alike
abbrev Letters : Type 0
Letters = ℕ × Float × Affine × ℕ

abbrev same_letters : Letters → Letters → Bool
same_letters u v = (eqb u.0 v.0 && same_bits u.1 v.1) && (same_affine u.2 v.2 && eqb u.3 v.3)

per_letters : Per (Passes same_letters)
per_letters = per_compared (both_fields
    (both_fields (number_field (λ (u : Letters). u.0)) (record_field (λ (u : Letters). u.1) bits_fields))
    (both_fields (record_field (λ (u : Letters). u.2) affine_fields) (number_field (λ (u : Letters). u.3)))).compares

-- the same run, with a size of the same bits, has them
letters : (f f' : ℕ) (z z' : Float) (t t' : Affine) (k k' : ℕ) (b b' : Rect) → T ((eqb f f' && eq z z') && (same_affine t t' && eqb k k') && same_edges b b') → T (same_bits z z') → T (same_letters (f, z, t, k) (f', z', t', k'))
letters f f' z z' t t' k k' b b' h e =
    let a = same_affine t t' && eqb k k' in
    let g = and_l ((eqb f f' && eq z z') && a) (same_edges b b') h in
    and_i (eqb f f' && same_bits z z') a (and_i (eqb f f') (same_bits z z') (and_l (eqb f f') (eq z z') (and_l (eqb f f' && eq z z') a g)) e) (and_r (eqb f f' && eq z z') a g)

runs_go : (c d c' d' : DrawCommand) → T (same_drawing c c') → T (same_bits (size_of c) (size_of c')) → T (same_drawing d d') → T (same_bits (size_of d) (size_of d')) → T (runs_alike c d) → T (runs_alike c' d')
unfolding runs_alike run_alike same_drawing same_run
runs_go (GlyphRun f z t k b i) (GlyphRun g y r l a j) (GlyphRun f' z' t' k' b' i') (GlyphRun g' y' r' l' a' j') h e n m x =
    per_letters.chain (f', z', t', k') (g, y, r, l) (g', y', r', l')
    (per_letters.chain (f', z', t', k') (f, z, t, k) (g, y, r, l) (per_letters.flip (f, z, t, k) (f', z', t', k') (letters f f' z z' t t' k k' b b' h e)) x)
    (letters g g' y y' r r' l l' a a' n m)
runs_go (GlyphRun f z t k b i) (GlyphRun g y r l a j) (GlyphRun f' z' t' k' b' i') (FillPath g' r' a' l') h e n m x = absurd n
runs_go (GlyphRun f z t k b i) (GlyphRun g y r l a j) (GlyphRun f' z' t' k' b' i') (StrokePath g' a' r' s' l') h e n m x = absurd n
runs_go (GlyphRun f z t k b i) (GlyphRun g y r l a j) (GlyphRun f' z' t' k' b' i') (Scene g' y' l' r' a') h e n m x = absurd n
runs_go (GlyphRun f z t k b i) (GlyphRun g y r l a j) (FillPath f' b' t' k') d' h e n m x = absurd h
runs_go (GlyphRun f z t k b i) (GlyphRun g y r l a j) (StrokePath f' b' t' s' k') d' h e n m x = absurd h
runs_go (GlyphRun f z t k b i) (GlyphRun g y r l a j) (Scene f' y' k' t' b') d' h e n m x = absurd h
runs_go (GlyphRun f z t k b i) (FillPath g a r l) c' d' h e n m x = absurd x
runs_go (GlyphRun f z t k b i) (StrokePath g a r s l) c' d' h e n m x = absurd x
runs_go (GlyphRun f z t k b i) (Scene g y l r a) c' d' h e n m x = absurd x
runs_go (FillPath n b t k) d c' d' h e j m x = absurd x
runs_go (StrokePath n b t s k) d c' d' h e j m x = absurd x
runs_go (Scene n g y t b) d c' d' h e j m x = absurd x

module _ (o o' n n' : Command) (p : T (equal o o')) (q : T (equal n n')) where
  pub equal_same : equal o n ≡ equal o' n'
  equal_same = per_same equal per_equal o o' n n' p q

  pub fills_same : fills_alike o.draw n.draw ≡ fills_alike o'.draw n'.draw
  fills_same =
      let a = (equal_parts o o' p).draw in
      let b = (equal_parts n n' q).draw in
      same_bool _ _ (fills_go o.draw n.draw o'.draw n'.draw a b) (fills_go o'.draw n'.draw o.draw n.draw (per_drawing.flip _ _ a) (per_drawing.flip _ _ b))

  -- run sizes by bits
  pub runs_same : T (same_bits (size_of o.draw) (size_of o'.draw)) → T (same_bits (size_of n.draw) (size_of n'.draw)) → runs_alike_clipped o n ≡ runs_alike_clipped o' n'
  unfolding runs_alike_clipped
  runs_same u v = λ i. draws i && per_same same_clips per_clips o.clips o'.clips n.clips n'.clips (equal_parts o o' p).clips (equal_parts n n' q).clips i
    where
      draws : runs_alike o.draw n.draw ≡ runs_alike o'.draw n'.draw
      draws =
          let a = (equal_parts o o' p).draw in
          let b = (equal_parts n n' q).draw in
          same_bool _ _ (runs_go o.draw n.draw o'.draw n'.draw a u b v)
          (runs_go o'.draw n'.draw o.draw n.draw (per_drawing.flip _ _ a) (per_bits.flip _ _ u) (per_drawing.flip _ _ b) (per_bits.flip _ _ v))
