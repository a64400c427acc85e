-- A header that is read has bands of a height above 0. Assumes nothing.
use mathlib.Core.Path.{◌≡◌, refl, sym, subst}
use Prim.Native.Nat.{ℕ, ◌<◌}
use Rattle.std.specs.Prelude.{List, Option, Some, None, Result, Ok, Err}
use Rattle.std.specs.Result.{result_ok}
use Rattle.base_refusals.specs.declared.Refusal.{Refusal}
use Rattle.compositor_screen.specs.declared.Screen.{Screen}
use Rattle.strip_frame.specs.Frame.{header_of}
use Rattle.plan_frame_drafts.proofs.Inputs.{header_sizes}
use Rattle.compositor_screen.proofs.Laws.{sizes_of}

abbrev HasBands : Option Screen → Type 0
HasBands (Some screen) = 0 < screen.band_height
HasBands None = Unit {0}

has_bands : (s : List ℕ) (r : Result Screen Refusal) → r ≡ header_of s → HasBands (result_ok r)
has_bands s (Ok screen) e = (sizes_of screen (header_sizes s (Ok screen) e screen refl)).some_band
has_bands s (Err why) e = tt

pub some_bands : (s : List ℕ) (r : Result Screen Refusal) → r ≡ header_of s → (screen : Screen) → Some screen ≡ result_ok r → 0 < screen.band_height
some_bands s r e screen q = subst HasBands (sym q) (has_bands s r e)
