-- The header and the strips behind it, by the checks in their order. Assumes nothing.
use Rattle.std.specs.Prelude.{◌≡◌, true, false, List, ℕ, ◌≤◌, ◌<◌, length, ltb, Result, Ok, Err}
use mathlib.Core.Path.{sym, refl, ap, subst, ◌∙◌}
use borrow.Author.Tests.{le-ltb, lt-ltb, ltb-false}
use Rattle.base_refusals.specs.declared.Fault.TheVariants.{Size, CutOff, TrailingByte}
use Rattle.base_refusals.specs.declared.Refusal.{Refusal}
use Rattle.base_refusals.specs.Table.{refused}
use Rattle.strip.specs.declared.Cursor.{Cursor}
use Rattle.strip.specs.Reading.{read_strip}
use Rattle.compositor_screen.specs.declared.Screen.{Screen}
use Rattle.compositor_screen.specs.Sizes.{fits}
use Rattle.strip_frame.specs.declared.Strips.{Strips}
use Rattle.base_lists.proofs.Picks.{pick_cases}
use Rattle.strip_frame.specs.Frame.{sizes_at, header_of, ended, then_new, with_old, then_strips, old_of, strips_of}
use Rattle.strip_frame.specs.declared.Entry.{Entry}

module _ (s : List ℕ) where
  -- ---- the header
  pub header_short : length s < 12 → refused CutOff 0 ≡ header_of s
  unfolding header_of
  header_short h = rw (lt-ltb (length s) 12 h)

  module _ (sizes : Screen) (long : 12 ≤ length s) (read : sizes ≡ sizes_at s) where
    pub header_bad : fits sizes ≡ false → refused Size 0 ≡ header_of s
    unfolding header_of
    header_bad e = let misfit = ap fits (sym read) ∙ e in rw (le-ltb (length s) 12 long, misfit)

    pub header_good : fits sizes ≡ true → Ok sizes ≡ header_of s
    unfolding header_of
    header_good e = let all-fit = ap fits (sym read) ∙ e in rw (le-ltb (length s) 12 long, all-fit) (ap Ok read)

-- ---- the new strip behind the old one
pub strips_next : (entry : Entry) (s : List ℕ) (old : Cursor) → old_of entry s ≡ Ok old → then_new s old (read_strip s old.at) ≡ strips_of entry s
unfolding strips_of
strips_next entry s old e = ap (then_strips s) (sym e)

-- what the old strip is refused for
pub strips_refused : (entry : Entry) (s : List ℕ) (why : Refusal) → old_of entry s ≡ Err why → Err why ≡ strips_of entry s
unfolding strips_of
strips_refused entry s why e = ap (then_strips s) (sym e)

-- ---- strips that were read, and nothing behind them
abbrev Told : Entry → List ℕ → Result Strips Refusal → Type 0
Told entry s (Ok both) = (old_of entry s ≡ Ok both.old) × (read_strip s both.old.at ≡ Ok both.new) × (length s ≤ both.new.at)
Told entry s (Err why) = Unit {0}

-- each strip was read from where the one before it ended, and the last one to the last byte
pub strips_told : (entry : Entry) (s : List ℕ) {r : Result Strips Refusal} → r ≡ strips_of entry s → {both : Strips} → r ≡ Ok both → (old_of entry s ≡ Ok both.old) × (read_strip s both.old.at ≡ Ok both.new) × (length s ≤ both.new.at)
unfolding strips_of ended
strips_told entry s a q = subst (Told entry s) (sym a ∙ q) (go (old_of entry s) refl)
  where
    behind : (old : Cursor) → old_of entry s ≡ Ok old → (x : Result Cursor Refusal) → read_strip s old.at ≡ x → Told entry s (then_new s old x)
    behind old e (Ok new) f = pick_cases (λ (x : Result Cursor Refusal). Told entry s (with_old old x)) (ltb new.at (length s)) (refused TrailingByte new.at) (Ok new) (λ n. tt) (λ n. (e, f, ltb-false new.at (length s) n))
    behind old e (Err why) f = tt

    go : (x : Result Cursor Refusal) → old_of entry s ≡ x → Told entry s (then_strips s x)
    go (Ok old) e = behind old e (read_strip s old.at) refl
    go (Err why) e = tt

-- ---- what follows the last strip
pub followed : (s : List ℕ) (last : Cursor) → last.at < length s → refused TrailingByte last.at ≡ ended s last
unfolding ended
followed s last h = rw (lt-ltb last.at (length s) h)

pub whole : (s : List ℕ) (last : Cursor) → length s ≤ last.at → Ok last ≡ ended s last
unfolding ended
whole s last h = rw (le-ltb last.at (length s) h)
