-- A loop that appends: what is left, appended to what is there, is the whole. Assumes nothing.
use mathlib.Core.Path.{◌≡◌, refl, sym, ap, subst, ◌∙◌}
use mathlib.Core.List.{List, [], ◌++◌}
use Prim.Native.Nat.{ℕ, ◌+◌, ◌≤◌}
use native.Mathlib.Omega.{arith}
use lib.Ieee.{Float}
use Rattle.kurbo_geometry.specs.declared.Rect.{Rect}
use Rattle.base_rect_list.specs.Rects.{filled, after, Added, AddedTo, Listed}
use Rattle.base_rect_list.specs.declared.RectList.{RectList}
use Rattle.base_rect_list.proofs.Appends.{after_append, listed, added_both, added_none, added_as}

-- `whole` was to be appended to n boxes in xs; there are m in ys, and `rest` is left
pub record AppendingSoFar (xs : List Float) (n : ℕ) (whole : List Rect) (ys : List Float) (m : ℕ) (rest : List Rect) : Type 0 where
  pub same : after (filled ys m) rest ≡ after (filled xs n) whole

pub going_start : {xs : List Float} {n : ℕ} {whole : List Rect} → AppendingSoFar xs n whole xs n whole
going_start = record { same = refl }

-- a turn that appends
pub going_add : {k : ℕ} {xs ys zs : List Float} {n m p : ℕ} {whole rest done left : List Rect} → AppendingSoFar xs n whole ys m rest → rest ≡ done ++ left → Added k ys m done zs p → AppendingSoFar xs n whole zs p left
going_add {k} {xs} {ys} {zs} {n} {m} {p} {whole} {rest} {done} {left} g e a = record { same = ap (λ f. after f left) a.state ∙ sym (after_append (filled ys m) done left) ∙ ap (after (filled ys m)) (sym e) ∙ g.same }

-- a turn with nothing to append
pub going_skip : {xs ys : List Float} {n m : ℕ} {whole rest left : List Rect} → AppendingSoFar xs n whole ys m rest → rest ≡ left → AppendingSoFar xs n whole ys m left
going_skip {xs} {ys} {n} {m} g e = record { same = ap (after (filled ys m)) (sym e) ∙ g.same }

-- the rest, appended at once
pub going_last : {k j : ℕ} {xs ys zs : List Float} {n m p : ℕ} {whole rest done : List Rect} → AppendingSoFar xs n whole ys m rest → rest ≡ done → p ≤ n + j → Added k ys m done zs p → Added j xs n whole zs p
going_last {k} {j} {xs} {ys} {zs} {n} {m} {p} {whole} {rest} {done} g e h a = record { state = a.state ∙ ap (after (filled ys m)) (sym e) ∙ g.same; most = h }

-- nothing is left
pub going_end : {k : ℕ} {xs ys : List Float} {n m : ℕ} {whole rest : List Rect} → AppendingSoFar xs n whole ys m rest → rest ≡ [] → m ≤ n + k → Added k xs n whole ys m
unfolding after
going_end {k} {xs} {ys} {n} {m} {whole} {rest} g e h = record { state = ap (after (filled ys m)) (sym e) ∙ g.same; most = h }

-- ---- the same of a list, whose words stay where they lie
pub record AppendedTo (old : RectList) (whole : List Rect) (new : RectList) (rest : List Rect) : Type 0 where
  pub going : AppendingSoFar old.words.now old.count whole new.words.now new.count rest
  pub same_place : new.words.ghost_name ≡ old.words.ghost_name

pub to_start : {old : RectList} {whole : List Rect} → AppendedTo old whole old whole
to_start = record { going = going_start; same_place = refl }

pub to_add : {k : ℕ} {old now new : RectList} {whole rest done left : List Rect} → AppendedTo old whole now rest → rest ≡ done ++ left → AddedTo k now done new → AppendedTo old whole new left
to_add g e a = record { going = going_add g.going e a.added; same_place = a.same_place ∙ g.same_place }

pub to_skip : {old now : RectList} {whole rest left : List Rect} → AppendedTo old whole now rest → rest ≡ left → AppendedTo old whole now left
to_skip g e = record { going = going_skip g.going e; same_place = g.same_place }

pub to_last : {k j : ℕ} {old now new : RectList} {whole rest done : List Rect} → AppendedTo old whole now rest → rest ≡ done → new.count ≤ old.count + j → AddedTo k now done new → AddedTo j old whole new
to_last g e h a = record { added = going_last g.going e h a.added; same_place = a.same_place ∙ g.same_place }

pub to_end : {k : ℕ} {old now : RectList} {whole rest : List Rect} → AppendedTo old whole now rest → rest ≡ [] → now.count ≤ old.count + k → AddedTo k old whole now
to_end g e h = record { added = going_end g.going e h; same_place = g.same_place }

-- ---- lists appended one after the other
pub to_both : {j k : ℕ} {old now new : RectList} {a b : List Rect} → AddedTo j old a now → AddedTo k now b new → AddedTo (j + k) old (a ++ b) new
to_both s t = record { added = added_both s.added t.added; same_place = t.same_place ∙ s.same_place }

pub to_none : {k : ℕ} {old : RectList} → AddedTo k old [] old
to_none {k} = record { added = added_none {k = k}; same_place = refl }

-- the same list by another name, and a larger bound
pub to_as : {k j : ℕ} {old new : RectList} {a b : List Rect} → a ≡ b → k ≤ j → AddedTo k old a new → AddedTo j old b new
to_as e h s = record { added = added_as e h s.added; same_place = s.same_place }

-- a list that began with nothing: what stands in its words at the end
pub to_listed : {k : ℕ} {old now new : RectList} {whole rest done : List Rect} → AppendedTo old whole now rest → rest ≡ done → AddedTo k now done new → old.count ≡ 0 → Listed old.words.now whole new.words.now new.count
to_listed {k} {old} {now} {new} {whole} g e a z =
    listed _ _ _ _ _ (subst (λ n. Added new.count old.words.now n whole new.words.now new.count) z (going_last {j = new.count} g.going e (omega arith) a.added))

-- the same of slices by other names
pub listed_as : {xs xs' ys ys' : List Float} {l : List Rect} {m : ℕ} → Listed xs l ys m → xs ≡ xs' → ys' ≡ ys → Listed xs' l ys' m
listed_as {xs} {xs'} {ys} {ys'} {l} {m} w e f = subst (λ z. Listed xs' l z m) (sym f) (subst (λ z. Listed z l ys m) e w)

-- what was appended to a list, of the slice that was lent to it
pub added_lent : {k n : ℕ} {xs zs : List Float} {old new : RectList} {l : List Rect} → AddedTo k old l new → old.words.now ≡ xs → old.count ≡ n → zs ≡ new.words.now → Added k xs n l zs new.count
added_lent {k} {n} {xs} {zs} {old} {new} {l} a e f g =
    subst (λ w. Added k xs n l w new.count) (sym g) (subst (λ z. Added k z n l new.words.now new.count) e (subst (λ m. Added k old.words.now m l new.words.now new.count) f a.added))
