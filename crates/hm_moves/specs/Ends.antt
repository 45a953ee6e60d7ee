-- The ends of chains, and how many links lead there.
use Rattle.std.specs.Prelude.{◌≡◌, ℕ, zero, suc, ◌≤◌, Some}
use Rattle.hm_shape.specs.declared.shape.Shape.{Shape}
use Rattle.hm_shape.specs.Words.{naming_word}
use Rattle.hm_moves.specs.declared.part.Known.{Known}
use Rattle.hm_moves.specs.Chain.{IsPublished, link_of}
use Rattle.hm_moves.specs.Places.{Heap, rank_limit}

-- n links lead from one version to another, each to the published version that it names
abbrev pub Links : Shape → Heap → ℕ → Known → Known → Type 0
Links s h zero k last = k ≡ last
Links s h (suc n) k last =
    (next : Known) × IsPublished h.index next
    × (link_of s h.words k ≡ naming_word (Some next.version)) × Links s h n next last

-- a chain ends after n links where they lead to a version without a link
pub record EndsAfter (s : Shape) (h : Heap) (k : Known) (n : ℕ) : Type 0 where
  pub last : Known
  pub links : Links s h n k last
  pub none : link_of s h.words last ≡ 0

-- behind each published version its chain ends, after at most as many links as ranks are below the
-- limit
pub record ChainsEnd (s : Shape) (h : Heap) : Type 0 where
  pub ends : (k : Known) → IsPublished h.index k → (n : ℕ) × EndsAfter s h k n
  pub few : (k : Known) (n : ℕ) → IsPublished h.index k → EndsAfter s h k n
      → n ≤ rank_limit s h.places.done
