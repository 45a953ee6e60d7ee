-- Lines that are put into a sink one after another.
use Rattle.std.proofs.Common.{◌≡◌, ℕ, zero, suc, ◌+◌, ◌<◌, ◌≤◌, List, [], ◌∷◌, ◌++◌, length, map, get_or, take, drop, Option, Some, None, Result, Ok, Err, OnErr, refl, sym, ap, ◌∙◌, append_assoc, length-append, arith}
use Rattle.std.specs.List.{flat_map}
use Rattle.std.proofs.lemmas.Grind.{flat_map-append}
use Rattle.std.proofs.lemmas.List.{append-nil, take_all, take-append-drop, take_more, drop_more}
use Rattle.hm_edge.specs.Faults.{Rose, count_after, next_count}
use Rattle.hm_edge.specs.Sinks.{bytes_after}
use Rattle.hm_orders.specs.declared.write.WriteRefused.{WriteRefused}
use Rattle.hm_orders.specs.declared.write.WriteRefused.TheVariants.{Failed, Memory}
use Rattle.hm_orders.specs.ReportText.{AddsFront, joined}
use Rattle.hm_orders.specs.Putting.{HasTried, Puts, PutsLines}

-- no bytes leave what was written as it was
none-after : (written : Option (List ℕ)) → bytes_after [] written ≡ written
none-after None = refl
none-after (Some bytes) = ap (λ (all : List ℕ). Some all) (append-nil bytes)

-- bytes after bytes are the bytes of both
both-after : (first second : List ℕ) (written : Option (List ℕ))
    → bytes_after second (bytes_after first written) ≡ bytes_after (first ++ second) written
both-after first second None = refl
both-after first second (Some bytes) =
    ap (λ (all : List ℕ). Some all) (append_assoc bytes first second)

-- lines after lines are the lines of both
joined-append : (first second : List (List ℕ)) → joined (first ++ second)
    ≡ joined first ++ joined second
joined-append first second = flat_map-append (λ line. line) first second

-- the same of what was written
lines-after : (first second : List (List ℕ)) (written : Option (List ℕ))
    → bytes_after (joined second) (bytes_after (joined first) written)
    ≡ bytes_after (joined (first ++ second)) written
lines-after first second written =
    both-after (joined first) (joined second) written
    ∙ ap (λ (bytes : List ℕ). bytes_after bytes written) (sym (joined-append first second))

-- a count after more and then more
count-both : (n m count : ℕ) → count_after m (count_after n count) ≡ count_after (n + m) count
count-both n zero count =
    let e : n ≡ n + zero = omega arith in ap (λ (k : ℕ). count_after k count) e
count-both n (suc m) count =
    let e : suc (n + m) ≡ n + suc m = omega arith in
    ap next_count (count-both n m count) ∙ ap (λ (k : ℕ). count_after k count) e

-- all lines were tried where the call was done
all-tried : (tried others lines : List (List ℕ)) → tried ++ others ≡ lines → others ≡ []
    → tried ≡ lines
all-tried tried others lines in_order none =
    sym (append-nil tried) ∙ ap (λ (more : List (List ℕ)). tried ++ more) (sym none) ∙ in_order

-- what a sink has of lines after others
has-then : (first tried : List (List ℕ)) (result : Result (Unit {0}) WriteRefused)
    (old mid new : Option (List ℕ)) → mid ≡ bytes_after (joined first) old
    → HasTried result tried mid new → HasTried result (first ++ tried) old new
has-then first tried (Ok done) old mid new put has =
    has ∙ ap (bytes_after (joined tried)) put ∙ lines-after first tried old
has-then first tried (Err Memory) old mid new put has =
    has ∙ ap (bytes_after (joined tried)) put ∙ lines-after first tried old
has-then first tried (Err Failed) old mid new put has =
    let front = has.front in
    let before : bytes_after (joined has.before) mid
    ≡ bytes_after (joined (first ++ has.before)) old =
    ap (bytes_after (joined has.before)) put ∙ lines-after first has.before old in
    record {
      before = first ++ has.before;
      last = has.last;
      in_order = append_assoc first has.before (has.last ∷ [])
          ∙ ap (λ (lines : List (List ℕ)). first ++ lines) has.in_order;
      front = record {
        front = front.front;
        rest = front.rest;
        is_front = front.is_front;
        adds = front.adds ∙ ap (bytes_after front.front) before;
      };
    }

-- lines that were all put are written whole
pub text-whole : (lines : List (List ℕ)) (done : Unit {0}) (puts puts_after : ℕ)
    (old new : Option (List ℕ)) → PutsLines lines (Ok done) puts puts_after old new
    → new ≡ bytes_after (joined lines) old
text-whole lines done puts puts_after old new put =
    put.has ∙ ap (λ (tried : List (List ℕ)). bytes_after (joined tried) old)
    (all-tried put.tried put.others lines put.in_order put.whole)

-- and each of them was one put
pub count-whole : (lines : List (List ℕ)) (done : Unit {0}) (puts puts_after : ℕ)
    (old new : Option (List ℕ)) → PutsLines lines (Ok done) puts puts_after old new
    → puts_after ≡ count_after (length lines) puts
count-whole lines done puts puts_after old new put =
    put.counted ∙ ap (λ (tried : List (List ℕ)). count_after (length tried) puts)
    (all-tried put.tried put.others lines put.in_order put.whole)

-- and of lines that were not all put a front is written
pub text-front : (lines : List (List ℕ)) (result : Result (Unit {0}) WriteRefused)
    (puts puts_after : ℕ) (old new : Option (List ℕ))
    → PutsLines lines result puts puts_after old new → OnErr result (AddsFront (joined lines) old new)
text-front lines (Ok done) puts puts_after old new put = tt
text-front lines (Err Memory) puts puts_after old new put = record {
  front = joined put.tried;
  rest = joined put.others;
  is_front = sym (joined-append put.tried put.others) ∙ ap joined put.in_order;
  adds = put.has;
}
text-front lines (Err Failed) puts puts_after old new put =
    let before = put.has.before in
    let last = put.has.last in
    let front = put.has.front in
    let others = joined put.others in
    let tried : joined before ++ last ≡ joined put.tried =
    ap (λ (bytes : List ℕ). joined before ++ bytes) (sym (append-nil last))
    ∙ sym (joined-append before (last ∷ [])) ∙ ap joined put.has.in_order in
    record {
      front = joined before ++ front.front;
      rest = front.rest ++ others;
      is_front = sym (append_assoc (joined before ++ front.front) front.rest others)
          ∙ ap (λ (bytes : List ℕ). bytes ++ others)
          (append_assoc (joined before) front.front front.rest
          ∙ ap (λ (bytes : List ℕ). joined before ++ bytes) front.is_front ∙ tried)
          ∙ sym (joined-append put.tried put.others) ∙ ap joined put.in_order;
      adds = front.adds ∙ both-after (joined before) front.front old;
    }

module _ {S : Type 0} (written : S → Option (List ℕ)) (faults puts : S → ℕ) where
  -- nothing is put yet
  pub puts-none : (s : S) → Puts written faults puts [] (Ok tt) s s
  puts-none s = record {
    put = record {
      tried = [];
      others = [];
      in_order = refl;
      whole = refl;
      counted = refl;
      has = sym (none-after (written s));
    };
    failed = λ e. absurd cc;
    unfailed = λ other. refl;
    faults_stay = omega arith;
  }

  -- memory ran out before anything was put
  pub puts-no-memory : (lines : List (List ℕ)) (s : S)
      → Puts written faults puts lines (Err Memory) s s
  puts-no-memory lines s = record {
    put = record {
      tried = [];
      others = lines;
      in_order = refl;
      whole = tt;
      counted = refl;
      has = sym (none-after (written s));
    };
    failed = λ e. absurd cc;
    unfailed = λ other. refl;
    faults_stay = omega arith;
  }

  -- where lines were refused, so are all that begin with them
  pub puts-stop : (lines more : List (List ℕ)) (refused : WriteRefused) (s t : S)
      → Puts written faults puts lines (Err refused) s t
      → Puts written faults puts (lines ++ more) (Err refused) s t
  puts-stop lines more refused s t all =
      let put = all.put in
      record {
        put = record {
          tried = put.tried;
          others = put.others ++ more;
          in_order = sym (append_assoc put.tried put.others more)
              ∙ ap (λ (every : List (List ℕ)). every ++ more) put.in_order;
          whole = tt;
          counted = put.counted;
          has = put.has;
        };
        failed = all.failed;
        unfailed = all.unfailed;
        faults_stay = all.faults_stay;
      }

  -- lines that were put, and then others
  pub puts-then : (first second : List (List ℕ)) (result : Result (Unit {0}) WriteRefused)
      (s t u : S) → Puts written faults puts first (Ok tt) s t
      → Puts written faults puts second result t u
      → Puts written faults puts (first ++ second) result s u
  puts-then first second result s t u all next =
      let put = all.put in
      let more = next.put in
      let tried : put.tried ≡ first = all-tried put.tried put.others first put.in_order put.whole in
      let so_far : puts t ≡ count_after (length first) (puts s) =
      put.counted ∙ ap (λ (l : List (List ℕ)). count_after (length l) (puts s)) tried in
      record {
        put = record {
          tried = first ++ more.tried;
          others = more.others;
          in_order = append_assoc first more.tried more.others
              ∙ ap (λ (l : List (List ℕ)). first ++ l) more.in_order;
          whole = more.whole;
          counted = more.counted ∙ ap (count_after (length more.tried)) so_far
              ∙ count-both (length first) (length more.tried) (puts s)
              ∙ ap (λ (n : ℕ). count_after n (puts s)) (sym (length-append first more.tried));
          has = has-then first more.tried result (written s) (written t) (written u)
              (text-whole first tt (puts s) (puts t) (written s) (written t) put) more.has;
        };
        failed = λ e. omega (arith, all.faults_stay, next.failed e);
        unfailed = λ other. next.unfailed other ∙ all.unfailed (λ e. absurd cc);
        faults_stay = omega (arith, all.faults_stay, next.faults_stay);
      }

  -- a line that was put
  pub puts-line : (line : List ℕ) (s t : S) → written t ≡ bytes_after line (written s)
      → faults t ≡ faults s → puts t ≡ next_count (puts s)
      → Puts written faults puts (line ∷ []) (Ok tt) s t
  puts-line line s t is same counts = record {
    put = record {
      tried = line ∷ [];
      others = [];
      in_order = refl;
      whole = refl;
      counted = counts;
      has = is ∙ ap (λ (bytes : List ℕ). bytes_after bytes (written s)) (sym (append-nil line));
    };
    failed = λ e. absurd cc;
    unfailed = λ other. same;
    faults_stay = omega (arith, same);
  }

  -- a line of which a front was put
  pub puts-part : (line : List ℕ) (wrote : ℕ) (s t : S)
      → written t ≡ bytes_after (take wrote line) (written s)
      → Rose (faults s) (faults t) → faults s ≤ faults t → puts t ≡ next_count (puts s)
      → Puts written faults puts (line ∷ []) (Err Failed) s t
  puts-part line wrote s t part rose stay counts = record {
    put = record {
      tried = line ∷ [];
      others = [];
      in_order = refl;
      whole = tt;
      counted = counts;
      has = record {
        before = [];
        last = line;
        in_order = refl;
        front = record {
          front = take wrote line;
          rest = drop wrote line;
          is_front = take-append-drop wrote line;
          adds = part ∙ ap (bytes_after (take wrote line)) (sym (none-after (written s)));
        };
      };
    };
    failed = λ e. rose;
    unfailed = λ other. absurd (other refl);
    faults_stay = stay;
  }

  -- the lines of all items
  pub puts-all : {X : Type 0} (lines : X → List (List ℕ)) (items : List X) (i : ℕ) (s t : S)
      → length items ≤ i → Puts written faults puts (flat_map lines (take i items)) (Ok tt) s t
      → Puts written faults puts (flat_map lines items) (Ok tt) s t
  puts-all lines items i s t le put = rw take_all at put

module _ {S X : Type 0} (written : S → Option (List ℕ)) (faults puts : S → ℕ)
    (lines : X → List (List ℕ)) (items : List X) (i : ℕ) (item other : X) (lt : i < length items)
    (is : item ≡ get_or items i other) (s t u : S) where
  -- the lines of the items so far, and those of the next one
  pub puts-more : Puts written faults puts (flat_map lines (take i items)) (Ok tt) s t
      → Puts written faults puts (lines item) (Ok tt) t u
      → Puts written faults puts (flat_map lines (take (i + 1) items)) (Ok tt) s u
  puts-more put next =
      let front = take i items in
      let taken : take (i + 1) items ≡ front ++ item ∷ [] =
      take_more items i other lt ∙ ap (λ (x : X). front ++ x ∷ []) (sym is) in
      let texts : flat_map lines (take (i + 1) items) ≡ flat_map lines front ++ lines item =
      ap (flat_map lines) taken ∙ flat_map-append lines front (item ∷ [])
      ∙ ap (λ (l : List (List ℕ)). flat_map lines front ++ l) (append-nil (lines item)) in
      rw texts
      (puts-then written faults puts (flat_map lines front) (lines item) (Ok tt) s t u put next)

  -- where those of the next one were refused, so are those of all
  pub puts-stop-at : (refused : WriteRefused)
      → Puts written faults puts (flat_map lines (take i items)) (Ok tt) s t
      → Puts written faults puts (lines item) (Err refused) t u
      → Puts written faults puts (flat_map lines items) (Err refused) s u
  puts-stop-at refused put next =
      let front = take i items in
      let rest = drop (i + 1) items in
      let parts : front ++ item ∷ rest ≡ items =
      ap (λ (x : X). front ++ x ∷ rest) is
      ∙ ap (λ (xs : List X). front ++ xs) (sym (drop_more items i other lt))
      ∙ take-append-drop i items in
      let texts : flat_map lines items
      ≡ flat_map lines front ++ (lines item ++ flat_map lines rest) =
      ap (flat_map lines) (sym parts) ∙ flat_map-append lines front (item ∷ rest) in
      rw texts (puts-then written faults puts (flat_map lines front)
      (lines item ++ flat_map lines rest) (Err refused) s t u put
      (puts-stop written faults puts (lines item) (flat_map lines rest) refused t u next))

-- where each item has one line
pub flat_map-line : {X : Type 0} (line : X → List ℕ) (items : List X)
    → map line items ≡ flat_map (λ item. line item ∷ []) items
flat_map-line line [] = refl
flat_map-line line (item ∷ items) =
    ap (λ (lines : List (List ℕ)). line item ∷ lines) (flat_map-line line items)
