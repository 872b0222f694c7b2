-- Runs from the left are the runs of the marks.
--   join: a run of c places from f on, before other runs, of which the first is joined to it if it begins right behind it
--   join_one, join_extend, join_apart: joining and extending
--   left_runs: the runs that end from a place on, where a place behind the last is not marked
--   left_first, left_more, left_none: all of them, which are the runs of the marks; one place on; and none
--   begun_ended, begun_more: a run that is open begins before the place
--   run_count: how many runs a first place makes
--   count_more: one turn of the loop that counts runs
--   Writing: the runs that end from a place on lead memory where all of them lead, and there is room for them
--   write_first, write_begun, write_room, write_more, write_all: the loop that writes runs
use Rattle.std.proofs.Common.{◌≡◌, ℕ, zero, suc, ◌+◌, ◌-◌, ◌*◌, ◌<◌, ◌≤◌, Bool, true, false, cond, eqb, List, [], ◌∷◌, ◌++◌, length, get_or, drop, is_some, Some, None, Option, sym, refl, ap, ◌∙◌, subst, arith, length-append}
use mir.Val.{bool_byte}
use Rattle.std.specs.List.{flat_map}
use Rattle.std.proofs.lemmas.List.{at_drop_more, at_drop_all}
use Rattle.std.proofs.lemmas.Bool.{eq-eqb, ne_eqb}
use Rattle.codec.specs.Runs.{Run, run, extend, runs, Sound}
use Rattle.codec.specs.Records.{run_bytes}
use Rattle.codec.proofs.Reading.{joined_append}
use Rattle.codec.proofs.Runs.{runs_sound}
use Rattle.codec.proofs.Loops.{length_runs}
use Rattle.recorder.specs.Bytes.{put_bytes}
use Rattle.recorder.specs.Runs.{ended, still_open, run_from, closed_runs, Begun}
use Rattle.recorder.proofs.Puts.{puts_append}

abbrev pub join : ℕ → ℕ → List Run → List Run
join f c [] = run f c ∷ []
join f c (r ∷ rs) = cond (eqb r.offset (f + c)) (run f (c + r.count) ∷ rs) (run f c ∷ r ∷ rs)

pub join_one : (p : ℕ) (rs : List Run) → join p 1 rs ≡ extend p rs
join_one p [] = refl
join_one p (r ∷ rs) =
    let n : p + 1 ≡ suc p = omega arith in
    let k : 1 + r.count ≡ suc r.count = omega arith in
    rw (n, k)

pub join_extend : (f c : ℕ) (rs : List Run) → join f c (extend (f + c) rs) ≡ join f (suc c) rs
join_extend f c [] =
    let k : c + 1 ≡ suc c = omega arith in
    rw (eq-eqb (f + c) (f + c) refl, k)
join_extend f c (r ∷ rs) =
    let n : f + suc c ≡ suc (f + c) = omega arith in
    by (eqb r.offset (suc (f + c))) (rw n)
  where
    by : (t : Bool) → eqb r.offset (f + suc c) ≡ t → join f c (cond t (run (f + c) (suc r.count) ∷ rs) (run (f + c) 1 ∷ r ∷ rs)) ≡ join f (suc c) (r ∷ rs)
    by true e =
        let k : c + suc r.count ≡ suc c + r.count = omega arith in
        rw (eq-eqb (f + c) (f + c) refl, e, k)
    by false e =
        let k : c + 1 ≡ suc c = omega arith in
        rw (eq-eqb (f + c) (f + c) refl, e, k)

pub join_apart : (f c end : ℕ) (rs : List Run) → Sound (suc (f + c)) end rs → join f c rs ≡ run f c ∷ rs
join_apart f c end [] h = refl
join_apart f c end (r ∷ rs) h = let a = h.0 in rw (ne_eqb r.offset (f + c) (λ e. omega arith))

closed_both : (ms : List Bool) (p : ℕ) → (closed_runs None p (ms ++ (false ∷ [])) ≡ runs p ms) × ((f c : ℕ) → f + c ≡ p → closed_runs (Some f) p (ms ++ (false ∷ [])) ≡ join f c (runs p ms))
closed_both [] p = (refl, λ f c e. (let k : p - f ≡ c = omega arith in ap (λ (n : ℕ). run f n ∷ []) k))
closed_both (false ∷ ms) p =
    let i = closed_both ms (suc p) in (
      i.0,
      λ f c e.
          let k : p - f ≡ c = omega arith in
          let s : Sound (suc (f + c)) (suc p + length ms) (runs (suc p) ms) = subst (λ (n : ℕ). Sound (suc n) (suc p + length ms) (runs (suc p) ms)) (sym e) (runs_sound ms (suc p) (suc p + length ms) (omega arith)) in
          ap (λ (n : ℕ). run f n ∷ closed_runs None (suc p) (ms ++ (false ∷ []))) k
          ∙ ap (λ (x : List Run). run f c ∷ x) i.0
          ∙ sym (join_apart f c (suc p + length ms) (runs (suc p) ms) s),
    )
closed_both (true ∷ ms) p =
    let i = closed_both ms (suc p) in (
      i.1 p 1 (omega arith) ∙ join_one p (runs (suc p) ms),
      λ f c e.
          i.1 f (suc c) (omega arith)
          ∙ sym (join_extend f c (runs (suc p) ms))
          ∙ ap (λ (n : ℕ). join f c (extend n (runs (suc p) ms))) e,
    )

mark_last : (ms : List Bool) (p : ℕ) → get_or (ms ++ (false ∷ [])) p false ≡ get_or ms p false
mark_last [] zero = refl
mark_last [] (suc p) = refl
mark_last (m ∷ ms) zero = refl
mark_last (m ∷ ms) (suc p) = mark_last ms p

abbrev pub left_runs : List Bool → Option ℕ → ℕ → List Run
left_runs ms o p = closed_runs o p (drop p (ms ++ (false ∷ [])))

pub left_first : (ms : List Bool) → left_runs ms None 0 ≡ runs 0 ms
left_first ms = (closed_both ms 0).0

pub left_more : (ms : List Bool) (o : Option ℕ) (p : ℕ) (m : Bool) → p < length ms + 1 → m ≡ get_or ms p false → left_runs ms o p ≡ run_from (ended o m) p ++ left_runs ms (still_open o p m) (p + 1)
left_more ms o p m h e =
    let all = ms ++ (false ∷ []) in
    let n : suc p ≡ p + 1 = omega arith in
    let q : get_or all p false ≡ m = mark_last ms p ∙ sym e in
    at_drop_more (closed_runs o p) all p false (omega (arith, length-append ms (false ∷ [])))
    ∙ ap (λ (x : Bool). run_from (ended o x) p ++ closed_runs (still_open o p x) (suc p) (drop (p + 1) all)) q
    ∙ ap (λ (k : ℕ). run_from (ended o m) p ++ closed_runs (still_open o p m) k (drop (p + 1) all)) n

pub left_none : (ms : List Bool) (o : Option ℕ) (p : ℕ) → length ms + 1 ≤ p → left_runs ms o p ≡ []
left_none ms o p h = at_drop_all (closed_runs o p) (ms ++ (false ∷ [])) p (omega (arith, length-append ms (false ∷ [])))

pub begun_ended : (o : Option ℕ) (p : ℕ) (m : Bool) → Begun o p → Begun (ended o m) p
begun_ended o p true b = tt
begun_ended o p false b = b

pub begun_more : (o : Option ℕ) (p : ℕ) (m : Bool) → Begun o p → Begun (still_open o p m) (p + 1)
begun_more o p false b = tt
begun_more None p true b = omega arith
begun_more (Some f) p true b = omega arith

pub run_count : (o : Option ℕ) (p : ℕ) → length (run_from o p) ≡ bool_byte (is_some o)
run_count None p = refl
run_count (Some f) p = refl

pub count_more : (ms : List Bool) (o r next : Option ℕ) (p n x total : ℕ) (m some : Bool) → p < length ms + 1 → m ≡ get_or ms p false → r ≡ ended o m → some ≡ is_some r → x ≡ bool_byte some → next ≡ still_open o p m → n + length (left_runs ms o p) ≡ total → n + x + length (left_runs ms next (p + 1)) ≡ total
count_more ms o r next p n x total m some h e q s k f inv =
    let here = run_from (ended o m) p in
    let rest = left_runs ms (still_open o p m) (p + 1) in
    let a : length (left_runs ms o p) ≡ length here + length rest = ap length (left_more ms o p m h e) ∙ length-append here rest in
    let b : length (left_runs ms next (p + 1)) ≡ length rest = ap (λ (y : Option ℕ). length (left_runs ms y (p + 1))) f in
    let d : x ≡ length here = k ∙ ap bool_byte (s ∙ ap is_some q) ∙ sym (run_count (ended o m) p) in
    omega arith

pub record Writing (ms : List Bool) (old now : List ℕ) (start at : ℕ) (o : Option ℕ) (p : ℕ) : Type 0 where
  pub leads : put_bytes now at (flat_map run_bytes (left_runs ms o p)) ≡ put_bytes old start (flat_map run_bytes (runs 0 ms))
  pub room : at + 4 * length (left_runs ms o p) ≡ start + 4 * length (runs 0 ms)
  pub begun : Begun o p

pub write_first : (ms : List Bool) (old : List ℕ) (start : ℕ) → Writing ms old old start start None 0
write_first ms old start = record {
  leads = ap (λ (x : List Run). put_bytes old start (flat_map run_bytes x)) (left_first ms);
  room = ap (λ (x : List Run). start + 4 * length x) (left_first ms);
  begun = tt;
}

module _ (ms : List Bool) (old bs : List ℕ) (start at : ℕ) (o r : Option ℕ) (p : ℕ) (m : Bool) (h : p < length ms + 1) (e : m ≡ get_or ms p false) (q : r ≡ ended o m) (w : Writing ms old bs start at o p) where
  -- what is left, taken apart at place p
  apart : left_runs ms o p ≡ run_from r p ++ left_runs ms (still_open o p m) (p + 1)
  apart = left_more ms o p m h e ∙ ap (λ (x : Option ℕ). run_from x p ++ left_runs ms (still_open o p m) (p + 1)) (sym q)

  pub write_begun : Begun r p
  write_begun = subst (λ (x : Option ℕ). Begun x p) (sym q) (begun_ended o p m w.begun)

  pub write_room : at + 4 * length (run_from r p) ≤ start + 4 * length (runs 0 ms)
  write_room = omega (arith, w.room, ap length apart, length-append (run_from r p) (left_runs ms (still_open o p m) (p + 1)))

  pub write_more : (now : List ℕ) (next : Option ℕ) (then : ℕ) → now ≡ put_bytes bs at (flat_map run_bytes (run_from r p)) → then ≡ at + 4 * length (run_from r p) → next ≡ still_open o p m → Writing ms old now start then next (p + 1)
  write_more now next then a b d =
      let rest = left_runs ms (still_open o p m) (p + 1) in
      let same : left_runs ms next (p + 1) ≡ rest = ap (λ (x : Option ℕ). left_runs ms x (p + 1)) d in
      let k : then ≡ at + length (flat_map run_bytes (run_from r p)) = omega (arith, length_runs (run_from r p)) in
      record {
        leads = ap (λ (x : List Run). put_bytes now then (flat_map run_bytes x)) same
            ∙ ap (λ (x : List ℕ). put_bytes x then (flat_map run_bytes rest)) a
            ∙ ap (λ (x : ℕ). put_bytes (put_bytes bs at (flat_map run_bytes (run_from r p))) x (flat_map run_bytes rest)) k
            ∙ sym (puts_append (flat_map run_bytes (run_from r p)) (flat_map run_bytes rest) bs at)
            ∙ ap (put_bytes bs at) (sym (joined_append run_bytes (run_from r p) rest) ∙ ap (flat_map run_bytes) (sym apart))
            ∙ w.leads;
        room = omega (arith, w.room, ap length apart, length-append (run_from r p) rest, ap length same);
        begun = subst (λ (x : Option ℕ). Begun x (p + 1)) (sym d) (begun_more o p m w.begun);
      }

pub write_all : (ms : List Bool) (old now : List ℕ) (start at : ℕ) (o : Option ℕ) (p : ℕ) → length ms + 1 ≤ p → Writing ms old now start at o p → now ≡ put_bytes old start (flat_map run_bytes (runs 0 ms))
write_all ms old now start at o p h w =
    sym (ap (λ (x : List Run). put_bytes now at (flat_map run_bytes x)) (left_none ms o p h)) ∙ w.leads
