-- Lists of boxes appended one after the other: that makes the appended lists, and where all fitted their words stand in the space. Assumes nothing.
use mathlib.Core.Path.{◌≡◌, refl, sym, ap, ◌∙◌}
use mathlib.Core.Bool.{Bool, true, false}
use mathlib.Core.List.{List, [], ◌∷◌, ◌++◌, append_assoc, append-nil}
use Prim.Native.Nat.{ℕ, suc, ◌+◌, ◌*◌, ◌/◌, ◌≤◌, ◌<◌}
use native.Mathlib.Omega.{arith}
use native.Mathlib.Numerals.{unary_clauses}
use lib.Dec.{ltb}
use lib.ListN.{length, take, drop, length-append}
use lib.Seq.{sets, sets-eq, take_at, length-take-le, drop-set-lt}
use lib.Ieee.{Float}
use borrow.Author.Tests.{lt-ltb, le-ltb}
use Rattle.base_lists.specs.Pick.{pick}
use Rattle.kurbo_geometry.specs.declared.Rect.{Rect}
use Rattle.base_rect_words.specs.Words.{put_rect}
use Rattle.base_rect_words.proofs.Stores as Stores
use Rattle.base_rect_list.specs.Rects.{Filled, filled, put, after, Added, words_of_rects, Listed}

pub after_append : (f : Filled) (a b : List Rect) → after f (a ++ b) ≡ after (after f a) b
unfolding after
after_append f [] b = refl
after_append f (r ∷ a) b = after_append (put f r) a b

-- ---- one box more
module _ (f : Filled) (r : Rect) where
  count_put : (put f r).count ≡ f.count + 1
  unfolding put
  count_put = refl

  length_put : length (put f r).words ≡ length f.words
  unfolding put
  length_put = go (ltb f.count (length f.words / 4))
    where
      go : (t : Bool) → length (pick t (put_rect f.words (4 * f.count) r) f.words) ≡ length f.words
      go true = Stores.length_put f.words (4 * f.count) r
      go false = refl

abbrev four : Rect → List Float
four r = r.x0 ∷ r.y0 ∷ r.x1 ∷ r.y1 ∷ []

rect_words : (xs : List Float) (i : ℕ) (r : Rect) → i + 4 ≤ length xs → take (i + 4) (put_rect xs i r) ≡ take i xs ++ four r
unfolding put_rect
rect_words xs i r g =
    let e : put_rect xs i r ≡ sets xs i (four r) = simp unary_clauses in
    ap (take (i + 4)) (e ∙ sets-eq (four r) xs i g)
    ∙ take_at (take i xs ++ four r) (drop (i + 4) xs) (i + 4) (length-append (take i xs) (four r) ∙ ap (λ n. n + 4) (length-take-le i xs (omega arith)))

put_words : (f : Filled) (r : Rect) → 4 * f.count + 4 ≤ length f.words → take (4 * f.count + 4) (put f r).words ≡ take (4 * f.count) f.words ++ four r
unfolding put
put_words f r h =
    let room : f.count < length f.words / 4 = omega arith in
    rw (lt-ltb _ _ room) (rect_words f.words (4 * f.count) r h)

put_rest : (f : Filled) (r : Rect) (k : ℕ) → 4 * f.count + 4 ≤ k → drop k (put f r).words ≡ drop k f.words
unfolding put put_rect
put_rest f r k h = go (ltb f.count (length f.words / 4))
  where
    go : (t : Bool) → drop k (pick t (put_rect f.words (4 * f.count) r) f.words) ≡ drop k f.words
    go true =
        let p : 4 * f.count < k = omega arith in
        let q : 4 * f.count + 1 < k = omega arith in
        let u : 4 * f.count + 2 < k = omega arith in
        let v : 4 * f.count + 3 < k = omega arith in
        simp drop-set-lt
    go false = refl

-- ---- a list more
count_after : (f : Filled) (l : List Rect) → (after f l).count ≡ f.count + length l
unfolding after
count_after f [] = omega arith
count_after f (r ∷ l) = omega (arith, count_after (put f r) l, count_put f r)

pub length_after : (f : Filled) (l : List Rect) → length (after f l).words ≡ length f.words
unfolding after
length_after f [] = refl
length_after f (r ∷ l) = length_after (put f r) l ∙ length_put f r

-- if they fitted, the words are those before and then the list's
after_words : (f : Filled) (l : List Rect) → 4 * (f.count + length l) ≤ length f.words → take (4 * (f.count + length l)) (after f l).words ≡ take (4 * f.count) f.words ++ words_of_rects l
unfolding after words_of_rects
after_words f [] h =
    let z : f.count + 0 ≡ f.count = omega arith in
    rw z (sym (append-nil (take (4 * f.count) f.words)))
after_words f (r ∷ l) h =
    let e : (put f r).count ≡ f.count + 1 = count_put f r in
    let n : (put f r).count + length l ≡ f.count + suc (length l) = omega arith in
    let m : 4 * (put f r).count ≡ 4 * f.count + 4 = omega arith in
    ap (λ k. take (4 * k) (after (put f r) l).words) (sym n)
    ∙ after_words (put f r) l (omega (arith, length_put f r))
    ∙ ap (λ k. take k (put f r).words ++ words_of_rects l) m
    ∙ ap (λ q. q ++ words_of_rects l) (put_words f r (omega arith))
    ∙ append_assoc (take (4 * f.count) f.words) (four r) (words_of_rects l)

after_rest : (f : Filled) (l : List Rect) (k : ℕ) → 4 * (f.count + length l) ≤ k → drop k (after f l).words ≡ drop k f.words
unfolding after
after_rest f [] k h = refl
after_rest f (r ∷ l) k h =
    let e : (put f r).count ≡ f.count + 1 = count_put f r in
    after_rest (put f r) l k (omega arith) ∙ put_rest f r k (omega arith)

-- ---- what a caller reads off
module _ (k : ℕ) (xs : List Float) (n : ℕ) (l : List Rect) (ys : List Float) (m : ℕ) (a : Added k xs n l ys m) where
  pub added_count : m ≡ n + length l
  added_count = ap (λ (f : Filled). f.count) a.state ∙ count_after (filled xs n) l

  pub added_length : length ys ≡ length xs
  added_length = ap (λ (f : Filled). length f.words) a.state ∙ length_after (filled xs n) l

  added_words : 4 * m ≤ length xs → take (4 * m) ys ≡ take (4 * n) xs ++ words_of_rects l
  added_words h =
      ap (λ (f : Filled). take (4 * f.count) f.words) a.state
      ∙ ap (λ c. take (4 * c) (after (filled xs n) l).words) (count_after (filled xs n) l)
      ∙ after_words (filled xs n) l (omega (arith, added_count))

  added_rest : drop (4 * m) ys ≡ drop (4 * m) xs
  added_rest = ap (λ (f : Filled). drop (4 * m) f.words) a.state ∙ after_rest (filled xs n) l (4 * m) (omega (arith, added_count))

-- a list appended to nothing is listed
pub listed : (k : ℕ) (xs : List Float) (l : List Rect) (ys : List Float) (m : ℕ) → Added k xs 0 l ys m → Listed xs l ys m
listed k xs l ys m a = record {
  count = omega (arith, added_count k xs 0 l ys m a);
  words = λ h. added_words k xs 0 l ys m a h;
  rest = added_rest k xs 0 l ys m a;
  size = added_length k xs 0 l ys m a;
}

-- ---- lists appended one after the other
pub added_both : {j k : ℕ} {xs ys zs : List Float} {n m p : ℕ} {a b : List Rect} → Added j xs n a ys m → Added k ys m b zs p → Added (j + k) xs n (a ++ b) zs p
added_both {j} {k} {xs} {ys} {zs} {n} {m} {p} {a} {b} s t = record {
  state = t.state ∙ ap (λ f. after f b) s.state ∙ sym (after_append (filled xs n) a b);
  most = omega (arith, s.most, t.most);
}

pub added_none : {xs : List Float} {n k : ℕ} → Added k xs n [] xs n
unfolding after
added_none = record { state = refl; most = omega arith }

-- the same list by another name, and a larger bound
pub added_as : {k j : ℕ} {xs ys : List Float} {n m : ℕ} {a b : List Rect} → a ≡ b → k ≤ j → Added k xs n a ys m → Added j xs n b ys m
added_as {k} {j} {xs} {ys} {n} {m} e h s = record { state = s.state ∙ ap (after (filled xs n)) e; most = omega (arith, s.most) }

-- ---- what the code does with one box
module _ (xs : List Float) (n : ℕ) (r : Rect) where
  pub put_room : (ys : List Float) → n < length xs / 4 → ys ≡ put_rect xs (4 * n) r → Added 1 xs n (r ∷ []) ys (n + 1)
  unfolding after put
  put_room ys h e = record { state = rw (lt-ltb _ _ h, e); most = omega arith }

  pub put_full : length xs / 4 ≤ n → Added 1 xs n (r ∷ []) xs (n + 1)
  unfolding after put
  put_full h = record { state = rw (le-ltb _ _ h); most = omega arith }
