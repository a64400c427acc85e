-- Rules over some commands hold over fewer. Assumes nothing.
use Prim.Native.Nat.{ℕ}
use Rattle.display_list_commands.specs.Bounds.{Command}
use Rattle.panels_painting.specs.Painters.{Pixel, Key, Rules}

pub rules_fewer : {w h : ℕ} {C : Type 0} {M N : Command → Type 0} {paint : Command → Pixel w h → C → C} {mark : Key → Pixel w h → C → C} → ((c : Command) → N c → M c) → Rules w h C M paint mark → Rules w h C N paint mark
rules_fewer f R = record {
  equals = λ c d x y. R.equals c d (f c x) (f d y);
  untouched = λ c x. R.untouched c (f c x);
  fills = λ c d x y. R.fills c d (f c x) (f d y);
  glyph_by_glyph = λ c x. R.glyph_by_glyph c (f c x);
  by_value = λ c d x y. R.by_value c d (f c x) (f d y);
  glyph_untouched = λ c x. R.glyph_untouched c (f c x);
}
