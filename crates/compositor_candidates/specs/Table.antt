-- Document 01's table at `candidates`, for any numbers and any words.
use Rattle.std.specs.Prelude.{Bool, ◌||◌, ℕ, ◌+◌, ◌-◌, ◌/◌, List, [], length, get_or, take, drop, leb, ltb, Result, Ok, Err}
use Rattle.base_lists.specs.Pick.{pick}
use Rattle.compositor_rows.specs.Rows.{row_count}
use Rattle.compositor_screen.specs.declared.Screen.{Screen}
use Rattle.compositor_screen.specs.Sizes.{fits}
use Rattle.base_refusals.specs.declared.Fault.TheVariants.{Size, NoRow}
use Rattle.base_refusals.specs.declared.Refusal.{Refusal}
use Rattle.base_refusals.specs.Table.{number, refused}
use Rattle.compositor_candidates.specs.declared.Part.{Part}

-- 11, of a row and words with so many rows: the row "is at least the row count; or the index words lack the starts, or the row's two
-- starts fall or pass the entries". The entries are the words behind the rows + 1 starts.
unfoldable pub bad_row : ℕ → ℕ → List ℕ → Bool
bad_row rows r words =
    leb rows r
    || leb (length words) rows
    || ltb (get_or words (r + 1) 0) (get_or words r 0)
    || ltb (length words - (rows + 1)) (get_or words (r + 1) 0)

-- the words from the row's start up to the next row's, counted behind the starts
abbrev pub part : ℕ → ℕ → Part
part start end = record { start = start; end = end }

unfoldable pub find_row : ℕ → ℕ → List ℕ → Result Part Refusal
find_row rows r words = pick (bad_row rows r words) (refused NoRow 0) (Ok (part (rows + 1 + get_or words r 0) (rows + 1 + get_or words (r + 1) 0)))

-- "after 1" (`fits`), with "region y divided by band height, rounded down"
unfoldable pub find : Screen → ℕ → List ℕ → Result Part Refusal
find s y words = pick (fits s) (find_row (row_count s.height s.band_height) (y / s.band_height) words) (refused Size 0)

-- "`candidates` is the row of region y"; "A refused `candidates` hands back an empty list."
abbrev pub part_of : Result Part Refusal → List ℕ → List ℕ
part_of (Ok p) words = take (p.end - p.start) (drop p.start words)
part_of (Err why) words = []

abbrev pub candidates : Screen → ℕ → List ℕ → List ℕ
candidates s y words = part_of (find s y words) words

-- the table's number; 0 where no row's case holds
abbrev pub number_of : Result Part Refusal → ℕ
number_of (Ok p) = 0
number_of (Err why) = number why.fault

-- and its position: 0 with a row, and with every refusal that `find` gives
abbrev pub position_of : Result Part Refusal → ℕ
position_of (Ok p) = 0
position_of (Err why) = why.position

abbrev pub refusal : Screen → ℕ → List ℕ → ℕ
refusal s y words = number_of (find s y words)
