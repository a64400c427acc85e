-- Frames one after the other, where it is known which are accepted: what the rules speak of, the orders, the steps. Assumes nothing.
use mathlib.Core.Path.{◌≡◌, sym, ◌∙◌}
use mathlib.Core.Bool.{true, false, true≢false}
use mathlib.Core.List.{List, [], ◌∷◌}
use mathlib.Core.Option.{Option, some}
use Rattle.base_lists.specs.Members.{All}
use Rattle.base_lists.proofs.Members.{in_all}
use Rattle.display_list_commands.specs.Bounds.{Command}
use Rattle.panels_painting.specs.Painters.{Pixel}
use Rattle.panels.specs.Panels.{Planner, Frame, is_accepted, Used, now, later, OrderedBy, Orders, paint_whole, State, repaint, step}
use Rattle.compositor_screen.specs.declared.Screen.{Screen}

pub used_none : (P : Planner) (last : Option P.Strip) (Q : Command → Type 0) (c : Command) → Used P last [] c → Q c
used_none P last Q c u = elim u [ ]

module _ (P : Planner) (last : Option P.Strip) (f : Frame P) (fs : List (Frame P)) where
  -- ---- what all commands of accepted frames have
  pub used_accepted : (Q : Command → Type 0) → is_accepted P last f ≡ true → All Q (P.commands f.strip) → ((c : Command) → Used P (some f.strip) fs c → Q c) → (c : Command) → Used P last (f ∷ fs) c → Q c
  used_accepted Q e a k c (now t i) = in_all Q c (P.commands f.strip) i a
  used_accepted Q e a k c (later u) = k c (rw e at u)

  pub used_refused : (Q : Command → Type 0) → is_accepted P last f ≡ false → ((c : Command) → Used P last fs c → Q c) → (c : Command) → Used P last (f ∷ fs) c → Q c
  used_refused Q e k c (now t i) = absurd (true≢false (sym t ∙ e))
  used_refused Q e k c (later u) = k c (rw e at u)

  -- ---- the orders of accepted frames
  pub orders_accepted : is_accepted P last f ≡ true → OrderedBy P last f → Orders P (some f.strip) fs → Orders P last (f ∷ fs)
  orders_accepted e o k = (λ t. o, rw e k)

  pub orders_refused : is_accepted P last f ≡ false → Orders P last fs → Orders P last (f ∷ fs)
  orders_refused e k = (λ t. absurd (true≢false (sym t ∙ e)), rw e k)

-- ---- the panels
module _ (P : Planner) (screen : Screen) {C : Type 0} (background : C) (paint : Command → Pixel screen.width screen.height → C → C) (absent : Command) (s : State P screen background paint absent) (f : Frame P) where
  pub step_accepted : is_accepted P s.last f ≡ true → step P screen background paint absent s f ≡ record { last = some f.strip; panel_a = paint_whole P screen background paint absent (P.commands f.strip); panel_b = repaint P screen background paint absent s.last f s.panel_b }
  unfolding step
  step_accepted e = rw e

  pub step_refused : is_accepted P s.last f ≡ false → step P screen background paint absent s f ≡ s
  unfolding step
  step_refused e = rw e
