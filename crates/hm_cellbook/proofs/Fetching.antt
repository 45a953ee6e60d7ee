-- The book of a common object that was fetched.
use Rattle.std.proofs.Common.{◌≡◌, ℕ, ◌+◌, true, false, List, [], ◌∷◌, ◌++◌, Option, Some, None, refl, sym, ap, ◌∙◌, subst}
use Rattle.std.specs.Prelude.{slice_index}
use Rattle.hm_model.specs.declared.object.Contents.{Contents}
use Rattle.hm_model.specs.declared.object.Start.{Start}
use Rattle.hm_model.specs.declared.entry.Entry.{Entry}
use Rattle.hm_model.specs.declared.entry.Entry.TheVariants.{Create, Fetch}
use Rattle.hm_model.specs.declared.root.Snapshot.{Snapshot}
use Rattle.hm_model.specs.Store.{Numbers, PlainStore, contents_of}
use Rattle.hm_model.specs.Effect.{is_create}
use Rattle.hm_model.specs.History.{store_after, store_of, opening_of, common_name, side_names, side_entries}
use Rattle.hm_model.specs.Lawful.{AllCome, KeepsNodes, NodeLaws}
use Rattle.hm_model.specs.Sight.{Sight, name_at, present, Goes}
use Rattle.hm_model.proofs.HistoryFacts.{store_after-append, all_come_parts}
use Rattle.hm_model.proofs.Nodes.{keeps_nodes_after, keeps_nodes_goes}
use Rattle.hm_book.specs.declared.book.Resting.{Resting}
use Rattle.hm_agreement.specs.Cells.{board_name, book_name, IsNode}
use Rattle.hm_agreement.specs.Agreed.{HasBook, IsLawfulBook}
use Rattle.hm_agreement.proofs.Agreeing.{has_kept, book_node_laws}
use Rattle.hm_cellbook.specs.declared.usage.BookUsage.{BookUsage}
use Rattle.hm_cellbook.specs.Fetched.{book_lawful, book_allowed, book_node, fetched_contents, WasFetched}

-- the laws of nodes under a usage of the book
pub node_laws : (u : BookUsage) → NodeLaws (book_lawful u) (book_allowed u) (book_node u)
node_laws u = book_node_laws u.limits u.lengths

abbrev AreCreates : List Entry → Type 0
AreCreates [] = Unit {0}
AreCreates (e ∷ es) = (is_create e ≡ true) × AreCreates es

creates_append : (xs ys : List Entry) → AreCreates xs → AreCreates ys → AreCreates (xs ++ ys)
creates_append [] ys h k = k
creates_append (x ∷ xs) ys h k = (h.0, creates_append xs ys h.1 k)

sides_create : (k : ℕ) (sides : List (Option Numbers)) → AreCreates (side_entries k sides)
sides_create k [] = tt
sides_create k (None ∷ sides) = sides_create k sides
sides_create k (Some numbers ∷ sides) = (refl, sides_create (k + 1) sides)

opening_creates : (start : Start) → AreCreates (opening_of start)
opening_creates start =
    creates_append (side_entries 0 start.sides)
    (Create 0 (common_name start) (side_names 0 start.sides) start.numbers ∷ [])
    (sides_create 0 start.sides) (refl, tt)

-- an entry that creates nothing comes behind entries that all create
behind_creates : (xs rest before later : List Entry) (e : Entry) → is_create e ≡ false → AreCreates xs
    → xs ++ rest ≡ before ++ e ∷ later → (mid : List Entry) × (rest ≡ mid ++ e ∷ later)
behind_creates [] rest before later e other creates same = (before, same)
behind_creates (x ∷ xs) rest [] later e other creates same =
    let first : x ≡ e = cc in
    let made : is_create e ≡ true = subst (λ (f : Entry). is_create f ≡ true) first creates.0 in
    absurd (cc)
behind_creates (x ∷ xs) rest (b ∷ before) later e other creates same =
    let tail : xs ++ rest ≡ before ++ e ∷ later = cc in
    behind_creates xs rest before later e other creates.1 tail

-- the store that a fetch of the common object read, and what came later
pub record ReadStore (c : Sight BookUsage) (at : Snapshot) : Type 0 where
  pub store : PlainStore
  pub lawful : IsLawfulBook store
  pub there : contents_of store book_name ≡ Some (fetched_contents c at)
  pub later : List Entry
  pub come : AllCome (book_lawful c.usage) (book_allowed c.usage) store later
  pub now : present c ≡ store_after store later

pub read_store : (c : Sight BookUsage) (at : Snapshot) → WasFetched c at → ReadStore c at
read_store c at w =
    let lawful = book_lawful c.usage in
    let allowed = book_allowed c.usage in
    let whole = w.history.history in
    let start : PlainStore = store_of (opening_of c.start) in
    let fetch : Entry = Fetch c.number book_name (fetched_contents c at) in
    let split = behind_creates (opening_of c.start) whole.legal.rest w.before w.later fetch refl
    (opening_creates c.start)
    (sym whole.legal.begins ∙ w.seen) in
    let come : AllCome lawful allowed start (split.0 ++ fetch ∷ w.later) =
    subst (λ (l : List Entry). AllCome lawful allowed start l) split.1 whole.come in
    let parts = (all_come_parts lawful allowed start split.0 (fetch ∷ w.later) come).1 in
    record {
      store = store_after start split.0;
      lawful = parts.0.store;
      there = parts.0.stands;
      later = w.later;
      come = parts.1;
      now = ap store_of whole.legal.begins
          ∙ (store_after-append [] (opening_of c.start) whole.legal.rest
          ∙ (ap (store_after start) split.1 ∙ store_after-append start split.0 (fetch ∷ w.later)));
    }

module _ (c : Sight BookUsage) (at : Snapshot) (w : WasFetched c at) where
  same_common : fetched_contents c at ≡ (read_store c at w).lawful.common
  same_common = let r = read_store c at w in let there = r.there in let known = r.lawful.there in cc

  -- number 0 of a common object that was fetched is its stamp
  pub fetched_stamp : slice_index at.numbers 0 ≡ at.stamp
  fetched_stamp =
      let l = (read_store c at w).lawful in
      ap (λ (x : Contents). slice_index x.numbers 0) same_common
      ∙ (l.stamp ∙ sym (ap (λ (x : Contents). x.stamp) same_common))

  -- place 7 names the board
  pub fetched_board : name_at c.roots 7 ≡ Some board_name
  fetched_board =
      let l = (read_store c at w).lawful in
      ap (λ (x : Contents). name_at x.refs 3) same_common ∙ l.board

  -- nodes are kept from the store that was read
  pub read_kept : KeepsNodes IsNode (read_store c at w).store (present c)
  read_kept =
      let r = read_store c at w in
      subst (KeepsNodes IsNode r.store) (sym r.now)
      (keeps_nodes_after (book_lawful c.usage) (book_allowed c.usage) IsNode
      (node_laws c.usage) r.store r.later r.come)

  -- the common object had a book, and it still has it
  pub fetched_book : (book : List Resting) × HasBook (present c) (fetched_contents c at) book
  fetched_book =
      let r = read_store c at w in
      let has : HasBook r.store (fetched_contents c at) r.lawful.book =
      subst (λ (x : Contents). HasBook r.store x r.lawful.book) (sym same_common) r.lawful.has in
      (r.lawful.book, has_kept r.store (present c) (fetched_contents c at) r.lawful.book read_kept has)

-- a book stays the book of contents whatever a caller and others do
pub has_book_goes : (c d : Sight BookUsage) (own : List Entry) (common : Contents) (book : List Resting)
    → Goes book_lawful book_allowed c d own → HasBook (present c) common book
    → HasBook (present d) common book
has_book_goes c d own common book goes has =
    has_kept (present c) (present d) common book
    (keeps_nodes_goes book_lawful book_allowed book_node node_laws c d own goes) has
