-- The active clip box: one clip more, what it keeps of the edges of the boxes, and which way round the cut box lies. Assumes nothing.
use mathlib.Core.Path.{◌≡◌, refl}
use mathlib.Core.List.{List, [], ◌∷◌, ◌++◌}
use Prim.Native.Nat.{◌≤◌, ◌<◌}
use native.Mathlib.Omega.{arith}
use lib.Dec.{T}
use lib.ListN.{length}
use lib.Ieee.{Float}
use Rattle.base_lists.specs.Members.{All}
use Rattle.base_ieee.proofs.Rank.{rank, ordered}
use Rattle.kurbo_geometry.specs.declared.Rect.{Rect}
use Rattle.kurbo_geometry.specs.Boxes.{intersect}
use Rattle.kurbo_geometry.proofs.Edges.{Edges, Ordered, intersect_edges, low_rank, high_rank}
use Rattle.display_list_commands.specs.Bounds.{clip_from, clip_box, clipped}

from_last : (c : Rect) (cs : List Rect) (b : Rect) → clip_from c (cs ++ (b ∷ [])) ≡ intersect (clip_from c cs) b
unfolding clip_from
from_last c [] b = refl
from_last c (d ∷ cs) b = from_last (intersect c d) cs b

-- the first clip, and each later one intersected with what there is
pub clip_first : (b : Rect) → clip_box (b ∷ []) ≡ b
unfolding clip_from
clip_first b = refl

pub clip_last : (cs : List Rect) (b : Rect) → 0 < length cs → clip_box (cs ++ (b ∷ [])) ≡ intersect (clip_box cs) b
clip_last [] b h = absurd (omega arith)
clip_last (c ∷ cs) b h = from_last c cs b

-- where a clip is open, a box is intersected with the active clip box
pub clipped_some : (cs : List Rect) (b : Rect) → 0 < length cs → clipped cs b ≡ intersect b (clip_box cs)
clipped_some [] b h = absurd (omega arith)
clipped_some (c ∷ cs) b h = refl

-- ---- clipping makes no new edge: what holds of every edge still does
module _ (P : Float → Type 0) where
  from_edges : (c : Rect) (cs : List Rect) → Edges P c → All (Edges P) cs → Edges P (clip_from c cs)
  unfolding clip_from All
  from_edges c [] p q = p
  from_edges c (d ∷ cs) p q = from_edges (intersect c d) cs (intersect_edges P c d p q.0) q.1

  pub clip_edges : (cs : List Rect) → 0 < length cs → All (Edges P) cs → Edges P (clip_box cs)
  unfolding All
  clip_edges [] h q = absurd (omega arith)
  clip_edges (c ∷ cs) h q = from_edges c cs q.0 q.1

  pub clipped_edges : (cs : List Rect) (b : Rect) → All (Edges P) cs → Edges P b → Edges P (clipped cs b)
  clipped_edges [] b q p = p
  clipped_edges (c ∷ cs) b q p = intersect_edges P b (clip_box (c ∷ cs)) p (clip_edges (c ∷ cs) (omega arith) q)

-- ---- a box that is not reversed
pub record Upright (b : Rect) : Type 0 where
  pub across : rank b.x0 ≤ rank b.x1
  pub along : rank b.y0 ≤ rank b.y1

-- an intersection never is, whatever the two boxes
pub intersect_upright : (a b : Rect) → Ordered a → Ordered b → Upright (intersect a b)
intersect_upright a b f g =
    let l = low_rank a.x0 b.x0 a.x1 b.x1 f.x0 g.x0 f.x1 g.x1 in
    let h = high_rank a.x0 b.x0 a.x1 b.x1 f.x0 g.x0 f.x1 g.x1 in
    let m = low_rank a.y0 b.y0 a.y1 b.y1 f.y0 g.y0 f.y1 g.y1 in
    let k = high_rank a.y0 b.y0 a.y1 b.y1 f.y0 g.y0 f.y1 g.y1 in
    record { across = omega arith; along = omega arith }

pub clipped_upright : (cs : List Rect) (b : Rect) → All Ordered cs → Ordered b → Upright b → Upright (clipped cs b)
clipped_upright [] b q o u = u
clipped_upright (c ∷ cs) b q o u = intersect_upright b (clip_box (c ∷ cs)) o (clip_edges (λ x. T (ordered x)) (c ∷ cs) (omega arith) q)
