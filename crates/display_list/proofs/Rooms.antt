-- What the tests for room tell, and when they hold. Assumes nothing.
use mathlib.Core.Path.{◌≡◌}
use mathlib.Core.Bool.{true, ◌&&◌}
use mathlib.Core.List.{List}
use Prim.Native.Nat.{ℕ, ◌+◌, ◌*◌, ◌/◌, ◌≤◌, ◌<◌}
use native.Mathlib.Omega.{arith}
use lib.Dec.{leb, ltb}
use lib.ListN.{length}
use lib.Ieee.{Float}
use borrow.Author.Tests.{ltb-true, leb-true, lt-ltb, le-leb}
use Rattle.std.proofs.lemmas.Bool.{and_parts, and_from}
use Rattle.display_list_clips.specs.Chains.{Room}
use Rattle.display_list.specs.Lists.{clip_room, command_room}

pub clip_fits : (n x : ℕ) (bs : List Float) (ns : List ℕ) → clip_room n x (length bs) (length ns) ≡ true → Room n x bs ns
unfolding clip_room
clip_fits n x bs ns e =
    let t = and_parts (leb x n && ltb n (length ns)) (ltb n (length bs / 8)) e in
    let u = and_parts (leb x n) (ltb n (length ns)) t.0 in
    let p = leb-true x n u.0 in
    let q = ltb-true n (length ns) u.1 in
    let r = ltb-true n (length bs / 8) t.1 in
    record { boxes = omega arith; numbers = q; lower = p }

pub fits_clip : (n x : ℕ) (bs : List Float) (ns : List ℕ) → Room n x bs ns → clip_room n x (length bs) (length ns) ≡ true
unfolding clip_room
fits_clip n x bs ns r =
    let h : n < length bs / 8 = omega arith in
    and_from _ _ (and_from _ _ (le-leb x n r.lower) (lt-ltb n (length ns) r.numbers)) (lt-ltb n (length bs / 8) h)

pub command_fits : (m items boxes : ℕ) → command_room m items boxes ≡ true → (2 * m + 2 ≤ items) × (4 * m + 4 ≤ boxes)
unfolding command_room
command_fits m items boxes e =
    let t = and_parts (ltb m (items / 2)) (ltb m (boxes / 4)) e in
    let p = ltb-true m (items / 2) t.0 in
    let q = ltb-true m (boxes / 4) t.1 in
    (omega arith, omega arith)

pub fits_command : (m items boxes : ℕ) → 2 * m + 2 ≤ items → 4 * m + 4 ≤ boxes → command_room m items boxes ≡ true
unfolding command_room
fits_command m items boxes h k =
    let p : m < items / 2 = omega arith in
    let q : m < boxes / 4 = omega arith in
    and_from _ _ (lt-ltb m (items / 2) p) (lt-ltb m (boxes / 4) q)
