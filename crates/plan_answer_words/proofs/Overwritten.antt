-- Writing as many words as fit. Assumes nothing.
use mathlib.Core.Path.{◌≡◌, sym, ap, ◌∙◌}
use mathlib.Core.List.{List, ◌++◌}
use Prim.Native.Nat.{ℕ, ◌≤◌}
use lib.ListN.{length, take, drop, drop_of_length-le}
use lib.Seq.{take_all, take-length, drop-length}
use Rattle.plan_answer_words.specs.Words.{overwritten}

-- there is room for every word
pub all_fit : (words old : List ℕ) → length words ≤ length old → take (length words) words ++ drop (length words) old ≡ overwritten words old
unfolding overwritten
all_fit words old h = ap (λ l. l ++ drop (length words) old) (take-length words ∙ sym (take_all (length old) words h))

-- there is room for no more than these
pub some_fit : (words old : List ℕ) → length old ≤ length words → take (length old) words ++ drop (length old) old ≡ overwritten words old
unfolding overwritten
some_fit words old h = ap (λ l. take (length old) words ++ l) (drop-length old ∙ sym (drop_of_length-le old h))
