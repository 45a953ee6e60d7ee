-- What the nodes of a usage hold stays, whatever its callers do.
use Rattle.std.proofs.Common.{◌≡◌, ℕ, List, [], ◌∷◌, sym, subst}
use Rattle.hm_model.specs.declared.object.Name.{Name}
use Rattle.hm_model.specs.declared.entry.Tried.TheVariants.{Stored, Changed}
use Rattle.hm_model.specs.declared.entry.Entry.{Entry}
use Rattle.hm_model.specs.declared.entry.Entry.TheVariants.{Create, Fetch, Store, StoreIf}
use Rattle.hm_model.specs.Store.{Numbers, Refs, PlainStore}
use Rattle.hm_model.specs.Effect.{IsElsewhere, effect_of}
use Rattle.hm_model.specs.History.{store_after}
use Rattle.hm_model.specs.Lawful.{MayCome, AllCome, NodeLaws, KeepsNodes}
use Rattle.hm_model.specs.Sight.{Sight, present, Goes, Continues, Enters}
use Rattle.hm_model.specs.Calls.{MayCreate}
use Rattle.hm_model.proofs.EffectFacts.{contents_elsewhere}
use Rattle.hm_model.proofs.SightFacts.{present-goes}
use Rattle.hm_model.proofs.Entering.{present-enters, comes_enters}

-- nodes that are kept twice are kept
pub keeps_nodes_then : (node : PlainStore → Name → Type 0) (s t u : PlainStore) → KeepsNodes node s t
    → KeepsNodes node t u → KeepsNodes node s u
keeps_nodes_then node s t u h k = record {
  nodes = λ n x is here. k.nodes n x (h.nodes n x is here) (h.contents n x is here);
  contents = λ n x is here. k.contents n x (h.nodes n x is here) (h.contents n x is here);
}

module _ (lawful : PlainStore → Type 0) (allowed : PlainStore → Entry → Type 0)
    (node : PlainStore → Name → Type 0) (laws : NodeLaws lawful allowed node) where
  -- an entry that may come stores nothing into a node
  pub node_elsewhere : (s : PlainStore) (e : Entry) (n : Name) → MayCome lawful allowed s e → node s n
      → IsElsewhere n e
  node_elsewhere s (Create q m refs numbers) n h is = tt
  node_elsewhere s (Fetch q m answer) n h is = tt
  node_elsewhere s (Store q m field) n h is =
      λ (e : m ≡ n). laws.never_stored s q m field h (subst (node s) (sym e) is)
  node_elsewhere s (StoreIf q m stamp refs numbers Stored) n h is =
      λ (e : m ≡ n). laws.never_replaced s q m stamp refs numbers h (subst (node s) (sym e) is)
  node_elsewhere s (StoreIf q m stamp refs numbers (Changed now)) n h is = tt

  -- an entry that may come keeps nodes
  pub keeps_nodes_effect : (s : PlainStore) (e : Entry) → MayCome lawful allowed s e
      → KeepsNodes node s (effect_of s e)
  keeps_nodes_effect s e h = record {
    nodes = λ n x is here. laws.stays s e n h is;
    contents = λ n x is here. contents_elsewhere s e n x (node_elsewhere s e n h is) here;
  }

  -- so do many
  pub keeps_nodes_after : (s : PlainStore) (es : List Entry) → AllCome lawful allowed s es
      → KeepsNodes node s (store_after s es)
  keeps_nodes_after s [] h = record { nodes = λ n x is here. is; contents = λ n x is here. here }
  keeps_nodes_after s (e ∷ es) h =
      keeps_nodes_then node s (effect_of s e) (store_after (effect_of s e) es) (keeps_nodes_effect s e h.0)
      (keeps_nodes_after (effect_of s e) es h.1)

module _ {U : Type 0} (lawful : U → PlainStore → Type 0) (allowed : U → PlainStore → Entry → Type 0)
    (node : U → PlainStore → Name → Type 0) (laws : (u : U) → NodeLaws (lawful u) (allowed u) (node u)) where
  -- a caller's calls keep nodes, with all that others do meanwhile
  pub keeps_nodes_goes : (c d : Sight U) (own : List Entry) → Goes lawful allowed c d own
      → KeepsNodes (node c.usage) (present c) (present d)
  keeps_nodes_goes c d own h =
      subst (KeepsNodes (node c.usage) (present c)) (sym (present-goes lawful allowed c d own h))
      (keeps_nodes_after (lawful c.usage) (allowed c.usage) (node c.usage) (laws c.usage)
      (present c) h.more h.come)

  -- whatever they answer
  pub keeps_nodes_continues : (c d : Sight U) → Continues lawful allowed c d
      → KeepsNodes (node c.usage) (present c) (present d)
  keeps_nodes_continues c d h = keeps_nodes_goes c d h.own h.goes

  -- what a caller creates is a node
  pub created_node : (c d : Sight U) (q : ℕ) (n : Name) (refs : Refs) (numbers : Numbers)
      → Enters lawful allowed c d (Create q n refs numbers) → node c.usage (present d) n
  created_node c d q n refs numbers h =
      let comes = comes_enters lawful allowed c d (Create q n refs numbers) h in
      subst (λ (s : PlainStore). node c.usage s n)
      (sym (present-enters lawful allowed c d (Create q n refs numbers) h))
      ((laws c.usage).created (store_after (present c) h.between) q n refs numbers comes.store comes.stands)

  -- a caller may create whatever it likes
  pub may_create : (c : Sight U) (refs : List _) (numbers : Numbers) → MayCreate lawful allowed c refs numbers
  may_create c refs numbers n s lead stands = (laws c.usage).creates s c.number n _ numbers lead.store stands
