-- Chains end, since ranks rise along links.
use Rattle.std.proofs.Common.{◌≡◌, ◌≤◌, ◌<◌, ◌+◌, ℕ, zero, suc, Some, refl, ◌∙◌, subst, arith}
use Rattle.hm_moves.proofs.Words.{Shape, naming_word, Known, Heap, row_count, total, rank_limit, IsPublished, link_of, IsForward, KeepsChains, KeepsRanks}
use Rattle.hm_moves.specs.Ends.{ChainsEnd, EndsAfter, Links}
use Rattle.hm_moves.proofs.Placed.{published_once, made_small}

module _ (s : Shape) (h : Heap) (chains : KeepsChains s h) (ranks : KeepsRanks s h) where
  abbrev done : ℕ
  done = h.places.done

  -- the published version that a link names has a greater rank
  rises : (k next : Known) → IsPublished h.index k → IsPublished h.index next
      → link_of s h.words k ≡ naming_word (Some next.version) → k.rank < next.rank
  rises k next is there link = go (link_of s h.words k) (chains.links k is) link
    where
      go : (w : ℕ) → IsForward h.index k w → w ≡ naming_word (Some next.version)
          → k.rank < next.rank
      go zero f e = absurd (omega arith)
      go (suc v) f e =
          subst (λ (m : Known). k.rank < m.rank)
          (published_once h.index next f.0 there f.2.published (let n = f.1 in omega arith))
          f.2.rank

  -- so a version that n links lead to has a rank greater by n at least
  climbs : (n : ℕ) (k last : Known) → IsPublished h.index k → Links s h n k last
      → IsPublished h.index last × (k.rank + n ≤ last.rank)
  climbs zero k last is l = (grind arith, grind arith)
  climbs (suc n) k last is l =
      let rest = climbs n l.0 last l.1 l.3 in
      let step = rises k l.0 is l.1 l.2 in
      (rest.0, let far = rest.1 in omega arith)

  all_places : total h.places.made (row_count s) ≤ rank_limit s done
  all_places = made_small s h.places done ranks.rows ranks.made ranks.freed

  -- a chain ends where no rank is left
  ends_from : (left : ℕ) (k : Known) → IsPublished h.index k → rank_limit s done < k.rank + left
      → (n : ℕ) × EndsAfter s h k n
  ends_from zero k is low =
      absurd (let a = ranks.ranks k is in let b = all_places in omega arith)
  ends_from (suc left) k is low =
      go (ends_from left) (link_of s h.words k) refl (chains.links k is)
    where
      go : ((m : Known) → IsPublished h.index m → rank_limit s done < m.rank + left
          → (n : ℕ) × EndsAfter s h m n)
          → (w : ℕ) → link_of s h.words k ≡ w → IsForward h.index k w → (n : ℕ) × EndsAfter s h k n
      go rest zero e f = (0, record { last = k; links = refl; none = e })
      go rest (suc v) e f =
          let later = f.2.rank in
          let end = rest f.0 f.2.published (omega arith) in
          let link : link_of s h.words k ≡ naming_word (Some f.0.version) =
          e ∙ (let n = f.1 in omega arith) in (
            suc end.0,
            record {
              last = end.1.last;
              links = (f.0, f.2.published, link, end.1.links);
              none = end.1.none;
            },
          )

  pub chains_end : ChainsEnd s h
  chains_end = record {
    ends = λ k is. ends_from (rank_limit s done + 1) k is (omega arith);
    few = λ k n is end.
        let up = climbs n k end.last is end.links in
        let low = ranks.ranks end.last up.0 in
        let far = up.1 in
        let all = all_places in
        omega arith;
  }
