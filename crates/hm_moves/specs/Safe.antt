-- The safety rule: what every moment of the machine keeps, and how it may come about.
use Rattle.std.specs.Prelude.{◌≡◌, ◌≢◌, ℕ, zero, suc, ◌+◌, ◌*◌, ◌≤◌, List, ◌++◌, Option, Some}
use mathlib.Core.Option.{some}
use lib.ListN.{get_elem?}
use Rattle.hm_shape.specs.declared.shape.Shape.{Shape}
use Rattle.hm_model.specs.declared.entry.Entry.{Entry}
use Rattle.hm_model.specs.Store.{PlainStore, contents_of}
use Rattle.hm_model.specs.History.{store_of, calls_of, IsLegal}
use Rattle.hm_moves.specs.declared.part.Known.{Known}
use Rattle.hm_moves.specs.declared.part.Site.{Site}
use Rattle.hm_moves.specs.declared.part.Part.{Part}
use Rattle.hm_moves.specs.declared.part.View.{View}
use Rattle.hm_moves.specs.declared.moving.Move.{Move}
use Rattle.hm_moves.specs.Chain.{Index, IsPublished, HasContents, Follows, link_of}
use Rattle.hm_moves.specs.Places.{Heap, row_count, total}
use Rattle.hm_moves.specs.Allowed.{IsLawfulMove}
use Rattle.hm_moves.specs.Good.{Begins, Core, Carries, applied, released, split, joined}
use Rattle.hm_moves.specs.Fresh.{IsFreshCore}
use Rattle.hm_moves.specs.Collecting.{KeepsCycle, KeepsNames, KeepsReach}

-- each published version with link 0 has the contents that the store gives to its name
pub record KeepsContents (s : Shape) (h : Heap) : Type 0 where
  pub words : (k : Known) → IsPublished h.index k → HasContents s h.index h.words k
  pub present : (k : Known) → IsPublished h.index k → link_of s h.words k ≡ 0
      → contents_of (store_of h.history) k.name ≡ Some k.contents

-- a link is 0, or names a published version of the same name with a greater rank
abbrev pub IsForward : Index → Known → ℕ → Type 0
IsForward index k zero = Unit {0}
IsForward index k (suc v) = (m : Known) × (m.version.0 ≡ v) × Follows index k m

-- links go forward, and of one name no two versions have one rank, and at most one has link 0
pub record KeepsChains (s : Shape) (h : Heap) : Type 0 where
  pub links : (k : Known) → IsPublished h.index k → IsForward h.index k (link_of s h.words k)
  pub ranks : (k m : Known) → IsPublished h.index k → IsPublished h.index m
      → m.name ≡ k.name → m.rank ≡ k.rank → m ≡ k
  pub last : (k m : Known) → IsPublished h.index k → IsPublished h.index m → m.name ≡ k.name
      → link_of s h.words k ≡ 0 → link_of s h.words m ≡ 0 → m ≡ k

-- a rank is at most the number of versions that were ever published: of each region at most its
-- places, and as many again for each time that it was freed, which is at most once for each cycle
-- that is done
pub record KeepsRanks (s : Shape) (h : Heap) : Type 0 where
  pub ranks : (k : Known) → IsPublished h.index k → k.rank ≤ total h.places.made (row_count s)
  pub rows : (row : ℕ) → h.places.used row ≤ s.versions
  pub made : (row : ℕ) → h.places.made row ≤ s.versions * h.places.freed row + h.places.used row
  pub freed : (row : ℕ) → h.places.freed row ≤ h.places.done

-- the history is legal, each seat has seen a beginning of it, and has there all calls of the
-- callers that it carries
pub record KeepsHistory {U : Type 0} (g : Site U) (c : Core U) : Type 0 where
  pub legal : IsLegal g.start c.heap.history
  pub seen : (j : ℕ) (v : View U) → get_elem? c.views j ≡ some v
      → Begins v.seen c.heap.history
  pub calls : (j k : ℕ) (v : View U) (p : Part U) → Carries c.views j k v p
      → (calls_of p.number c.heap.history ≡ p.calls.mine)
      × (calls_of p.number v.seen ≡ p.calls.mine)

-- all of these together: the safety rule, and the rule of the cycle
pub record IsSafe {U : Type 0} (g : Site U) (c : Core U) : Type 0 where
  pub reach : KeepsReach g.shape c
  pub names : KeepsNames g.shape c.heap
  pub contents : KeepsContents g.shape c.heap
  pub chains : KeepsChains g.shape c.heap
  pub ranks : KeepsRanks g.shape c.heap
  pub history : KeepsHistory g c
  pub cycle : KeepsCycle g.shape c

module _ {U : Type 0} (lawful : U → PlainStore → Type 0)
    (allowed : U → PlainStore → Entry → Type 0) where
  -- a machine leads to another by lawful moves, by letting go, by splits and joins, one after
  -- another
  pub data Leads (c : Core U) : Core U → Type 0 where
    here : Leads c c
    moved : (d : Core U) (id place : ℕ) (v : View U) (p : Part U) (m : Move) → Leads c d
        → Carries d.views id place v p → IsLawfulMove lawful allowed d.heap p m
        → Leads c (applied d id place v p m)
    let_go : (d : Core U) (id place : ℕ) (v : View U) (p : Part U) (o : Option Known) → Leads c d
        → Carries d.views id place v p → Leads c (released d id place v p o)
    cut : (d : Core U) (id : ℕ) (v : View U) (left right : List (Part U)) → Leads c d
        → get_elem? d.views id ≡ some v → v.parts ≡ left ++ right
        → Leads c (split d id v left right)
    met : (d : Core U) (id other : ℕ) (v w : View U) → Leads c d
        → get_elem? d.views id ≡ some v → other ≢ id → get_elem? d.views other ≡ some w
        → Leads c (joined d id v other w)

-- a machine comes from a fresh one where a fresh one leads to it
pub record ComesFromFresh {U : Type 0} (lawful : U → PlainStore → Type 0)
    (allowed : U → PlainStore → Entry → Type 0) (g : Site U) (d : Core U) : Type 0 where
  pub first : Core U
  pub fresh : IsFreshCore g first
  pub leads : Leads lawful allowed first d
