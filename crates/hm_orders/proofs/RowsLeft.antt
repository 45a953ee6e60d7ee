-- Which rows are left to read after a row was read.
use Rattle.std.proofs.Common.{◌≡◌, ℕ, zero, suc, ◌+◌, ◌-◌, ◌<◌, ◌≤◌, Bool, true, false, if◌then◌else◌, List, [], ◌∷◌, ◌++◌, length, Option, Some, None, refl, sym, ap, subst, ◌∙◌, arith, add-one}
use Rattle.std.specs.Borrow.{Bor}
use Rattle.std.proofs.lemmas.Option.{cond_some}
use Rattle.csv.specs.Machine.{Read, ends_at_end, field_after, fields_after, is_end, next_record, step}
use Rattle.csv.specs.Reading.{NextIs, ReadRecord, ReadsNext, default_config, has_failed, pending_of, reader_config, reader_state, records_from, records_next, source_of}
use Rattle.csv.specs.declared.parser.Config.{Config}
use Rattle.csv.specs.declared.parser.State.{State}
use Rattle.csv.specs.declared.parser.State.TheVariants as st
use Rattle.csv.specs.declared.reader.Reader.{Reader}
use Rattle.hm_orders.specs.RowReader.{FindsRow, rows_in, rows_left}

-- a record takes at least one byte, where there is one
within : (cfg : Config) (s : State) (fields : List (List ℕ)) (field xs : List ℕ) (p : Read)
    → next_record cfg s fields field xs ≡ Some p → length p.2 ≤ length xs - 1
unfolding next_record
within cfg s fields field [] p e =
    let whole : Read = (fields ++ (field ∷ []), st.StartRecord, []) in
    let is = (cond_some (ends_at_end s) whole p e).1 in
    omega (arith, ap (λ (q : Read). length q.2) is)
within cfg s fields field (c ∷ rest) p e =
    let state = (step cfg s c).0 in
    let fields2 = fields_after (step cfg s c).1 fields field in
    let field2 = field_after (step cfg s c).1 c field in
    by (is_end (step cfg s c).1) (fields2, state, rest)
    (next_record cfg state fields2 field2 rest) refl e
    (within cfg state fields2 field2 rest p)
  where
    by : (b : Bool) (here : Read) (later : Option Read) → here.2 ≡ rest
        → (if b then Some here else later) ≡ Some p
        → (later ≡ Some p → length p.2 ≤ length rest - 1)
        → length p.2 ≤ length (c ∷ rest) - 1
    by true here later at e more =
        let is : here ≡ p = cc in
        omega (arith, ap (λ (q : Read). length q.2) is, ap length at)
    by false here later at e more = omega (arith, more e)

-- no bytes have no records
none-left : (cfg : Config) (n : ℕ) → records_from cfg n st.StartRecord [] ≡ []
unfolding records_from next_record
none-left cfg zero = refl
none-left cfg (suc n) = refl

-- what is true of the records behind a record that took a byte is true behind each, since one that
-- took none was the last
behind : (cfg : Config) (n m : ℕ) (s : State) (xs : List ℕ) (p : Read)
    → next_record cfg s [] [] xs ≡ Some p
    → (length p.2 < length xs → records_from cfg n p.1 p.2 ≡ records_from cfg m p.1 p.2)
    → records_from cfg n p.1 p.2 ≡ records_from cfg m p.1 p.2
unfolding next_record
behind cfg n m s [] p e more =
    let whole : Read = ([] ∷ [], st.StartRecord, []) in
    let is = (cond_some (ends_at_end s) whole p e).1 in
    subst (λ (q : Read). records_from cfg n q.1 q.2 ≡ records_from cfg m q.1 q.2) is
    (none-left cfg n ∙ sym (none-left cfg m))
behind cfg n m s (c ∷ rest) p e more = more (omega (arith, within cfg s [] [] (c ∷ rest) p e))

-- how many records are asked for makes no difference, where they are more than the bytes
enough : (cfg : Config) (n m : ℕ) (s : State) (xs : List ℕ) → length xs < n → length xs < m
    → records_from cfg n s xs ≡ records_from cfg m s xs
unfolding records_from
enough cfg zero m s xs few many = absurd (omega arith)
enough cfg (suc n) zero s xs few many = absurd (omega arith)
enough cfg (suc n) (suc m) s xs few many =
    by (next_record cfg s [] [] xs) refl (enough cfg n m)
  where
    by : (o : Option Read) → next_record cfg s [] [] xs ≡ o
        → ((s2 : State) (ys : List ℕ) → length ys < n → length ys < m
        → records_from cfg n s2 ys ≡ records_from cfg m s2 ys)
        → records_next (records_from cfg n) o ≡ records_next (records_from cfg m) o
    by None e more = refl
    by (Some p) e more =
        ap (λ (rows : List (List (List ℕ))). p.0 ∷ rows)
        (behind cfg n m s xs p e (λ lt. more p.1 p.2 (omega arith) (omega arith)))

-- the rows that are left begin with the record that is read next
rows-begin : (s : State) (xs : List ℕ) (p : Read) → next_record default_config s [] [] xs ≡ Some p
    → rows_in s (Some xs) ≡ p.0 ∷ rows_in p.1 (Some p.2)
unfolding records_from
rows-begin s xs p e =
    let n = length xs in
    let m = length p.2 + 1 in
    let others =
    behind default_config n m s xs p e
    (λ lt. enough default_config n m p.1 p.2 (omega arith) (omega arith)) in
    rw (add-one, e) (ap (λ (rows : List (List (List ℕ))). p.0 ∷ rows) others)

-- no row is left where no record is
rows-end : (s : State) (xs : List ℕ) → next_record default_config s [] [] xs ≡ None
    → rows_in s (Some xs) ≡ []
unfolding records_from
rows-end s xs e = rw (add-one, e) refl

-- a read of known bytes finds the first row that is left
finds : (s s2 : State) (xs : List ℕ) (after : Option (List ℕ)) (found : Bool) (row : List (List ℕ))
    → ReadsNext default_config s (Some xs) after found row s2
    → FindsRow found row (rows_in s (Some xs)) (rows_in s2 after)
finds s s2 xs None found row reads = absurd reads
finds s s2 xs (Some ys) found row reads =
    by (next_record default_config s [] [] xs) found refl reads
  where
    by : (o : Option Read) (b : Bool) → next_record default_config s [] [] xs ≡ o
        → NextIs o b row s2 ys
        → FindsRow b row (rows_in s (Some xs)) (rows_in s2 (Some ys))
    by None true e is = absurd cc
    by None false e is = rows-end s xs e
    by (Some p) false e is = absurd cc
    by (Some p) true e is = rw (is.1, is.2, is.3) (rows-begin s xs p e)

-- the bytes of a reader that has not failed are known
known : (b : Bool) (x y : List ℕ) → (z : List ℕ) × ((if b then Some x else Some y) ≡ Some z)
known true x y = (x, refl)
known false x y = (y, refl)

source-known : (a : Reader (Bor (List ℕ))) → has_failed a ≡ false
    → (z : List ℕ) × (source_of (λ (slice : Bor (List ℕ)). Some slice.now) a ≡ Some z)
source-known a going = rw going (known _ _ _)

-- what a read of a reader does to the rows that it has left
pub reads-row : (a b : Reader (Bor (List ℕ))) (found : Bool) (row : List (List ℕ))
    → reader_config a ≡ default_config → has_failed a ≡ false
    → ReadRecord (λ (slice : Bor (List ℕ)). Some slice.now) a b found row
    → FindsRow found row (rows_left a) (rows_left b)
reads-row a b found row config going reads =
    let source = source-known a going in
    let next = rw (config, source.1) at reads.0 in
    rw (source.1, reads.1) (finds (reader_state a) (reader_state b) source.0
    (pending_of (Some b.rdr.now) b) found row next)
