-- A certificate is read exactly.
use Rattle.std.proofs.Common.{◌≡◌, ℕ, ◌+◌, ◌-◌, ◌^◌, ◌<◌, ◌≤◌, Bool, true, false, cond, eqb, List, [], ◌∷◌, ◌++◌, length, Result, Ok, Err, refl, sym, ap, subst, ◌∙◌, inl, inr, ◌⊎◌, arith}
use Rattle.std.specs.Prelude.{codes}
use Rattle.std.proofs.lemmas.Bool.{eqb-true, eqb-false}
use Rattle.std.proofs.lemmas.List.{append-nil, length-append, nil_from_length}
use Rattle.orienteering.specs.declared.Listed.{Listed}
use Rattle.orienteering.specs.declared.Node.{Node}
use Rattle.orienteering.specs.Certificate.{Certificate}
use Rattle.text_parts.specs.declared.stop.TextCause.TheVariants.{End, Syntax}
use Rattle.text_parts.specs.declared.stop.ReadFail.{ReadFail}
use Rattle.text_parts.specs.declared.stop.ReadFail.TheVariants.{Stopped, Memory}
use Rattle.text_parts.specs.Stops.{Stops, IsLongestFront}
use Rattle.text_parts.specs.Reading.{U64, one_of}
use Rattle.text_parts.specs.Reads.{IsSpelling, Reads, NoByte}
use Rattle.text_parts.specs.Texts.{ended_number, counted_text, WordText, IsTextOf, AreItems}
use Rattle.text_parts.specs.Gives.{Fails, cause_of}
use Rattle.text_parts.proofs.Laws.{Joins, bind_reads, bind_ok, bind_err}
use Rattle.text_parts.proofs.Parts.{chosen, word_reads, IsNothing, nothing_reads, IsMapped, mapped_reads}
use Rattle.text_parts.proofs.Keywords.{IsKeyword, keyword_reads}
use Rattle.text_parts.proofs.Fronts.{longest_front}
use Rattle.text_parts.proofs.Sequences.{free, both, texts_read, join, last_word, last_word_is, Spaced, Lined, spaced_reads, lined_reads}
use Rattle.text_parts.proofs.Counted.{counted_reads}
use Rattle.cert_text.specs.declared.head.Version.{Version}
use Rattle.cert_text.specs.declared.head.Version.TheVariants.{One}
use Rattle.cert_text.specs.declared.head.Head.{Head}
use Rattle.cert_text.specs.declared.reading.TextFail.{TextFail}
use Rattle.cert_text.specs.Reading.{all_versions, head_at, cert_at, whole_at}
use Rattle.cert_text.specs.Text.{point_text, node_text, version_line, instance_line, cert_text, IsListed, IsNode, IsCert}
use Rattle.cert_text.specs.Refusal.{IsCertText, StopsBeing, IsRefusal, Refuses, Placed}
use Rattle.cert_text.proofs.Lines.{point_reads}
use Rattle.cert_text.proofs.Nodes.{node_reads}

-- ---- the head

abbrev VersionSpelled : Version → List ℕ → Type 0
VersionSpelled = IsKeyword version_line all_versions

version_reads : Reads VersionSpelled NoByte (one_of version_line all_versions)
version_reads = keyword_reads version_line One [] refl

version_is : (v : Version) (text : List ℕ) → VersionSpelled v text → text ≡ version_line One
version_is One text p = p.1

record IsHead (head : Head) : Type 0 where
  customers : head.customers < 2 ^ 64
  team : head.team < 2 ^ 64
  scale : head.scale < 2 ^ 64

abbrev head_text : Head → List ℕ
head_text head = instance_line head.customers head.team head.scale

abbrev made_head : ℕ → ℕ → ℕ → Head
made_head customers team scale = record { customers = customers; team = team; scale = scale }

abbrev HeadSpelled : Head → List ℕ → Type 0
HeadSpelled = Joins (WordText (codes "instance ")) (λ _. Joins (Spaced U64) (λ customers. Joins (Spaced U64) (λ team. IsMapped (made_head customers team) (Lined U64))))

head_text_of : (head : Head) (text : List ℕ) → HeadSpelled head text → IsTextOf IsHead head_text head text
head_text_of head text word =
    let customers = word.spelled in
    let team = customers.spelled in
    let scale = team.spelled in
    let made : IsTextOf IsHead head_text (made_head customers.key team.key scale.of) text = (
      record { customers = omega (arith, customers.key_spelled.0); team = omega (arith, team.key_spelled.0); scale = omega (arith, scale.spelled.0) },
      both word.joined word.key_spelled (both customers.joined customers.key_spelled.1 (both team.joined team.key_spelled.1 scale.spelled.1)),
    ) in
    subst (λ (x : Head). IsTextOf IsHead head_text x text) (sym scale.value_is) made

head_spelled : (head : Head) → IsHead head → HeadSpelled head (head_text head)
head_spelled head p =
    join tt (codes "instance ") _ refl
    (join head.customers (ended_number (codes " ") head.customers) _ (omega (arith, p.customers), refl)
    (join head.team (ended_number (codes " ") head.team) _ (omega (arith, p.team), refl)
    record { of = head.scale; value_is = refl; spelled = (omega (arith, p.scale), refl) }))

head_reads : Reads (IsTextOf IsHead head_text) NoByte head_at
unfolding head_at
head_reads =
    texts_read IsHead head_text
    (bind_reads (word_reads (codes "instance "))
    (λ _. bind_reads (spaced_reads U64 (omega arith))
    (λ customers. bind_reads (spaced_reads U64 (omega arith)) (λ team. mapped_reads (made_head customers team) (lined_reads U64 (omega arith))) (free _))
    (free _))
    (free _))
    head_text_of head_spelled

-- ---- a certificate

abbrev made_cert : Head → List Listed → List Node → Certificate
made_cert head points nodes = record { customers = head.customers; team = head.team; scale = head.scale; points = points; nodes = nodes }

abbrev Points : List Listed → List ℕ → Type 0
Points = IsTextOf (AreItems IsListed) (counted_text (codes "points ") point_text)

abbrev Nodes : List Node → List ℕ → Type 0
Nodes = IsTextOf (AreItems IsNode) (counted_text (codes "nodes ") node_text)

abbrev CertSpelled : Certificate → List ℕ → Type 0
CertSpelled = Joins VersionSpelled (λ _. Joins (IsTextOf IsHead head_text) (λ head. Joins Points (λ points. Joins Nodes (λ nodes. Joins (WordText (codes "end\n")) (λ _. IsNothing (made_cert head points nodes))))))

cert_text_of : (c : Certificate) (text : List ℕ) → CertSpelled c text → IsTextOf IsCert cert_text c text
cert_text_of c text version =
    let head = version.spelled in
    let points = head.spelled in
    let nodes = points.spelled in
    let last = last_word_is (codes "end\n") (made_cert head.key points.key nodes.key) c nodes.second nodes.spelled in
    let h = head.key_spelled.0 in
    let made : IsTextOf IsCert cert_text (made_cert head.key points.key nodes.key) text = (
      record { customers = h.customers; team = h.team; scale = h.scale; points = points.key_spelled.0; nodes = nodes.key_spelled.0 },
      both version.joined (version_is version.key version.first version.key_spelled) (both head.joined head.key_spelled.1 (both points.joined points.key_spelled.1 (both nodes.joined nodes.key_spelled.1 last.1))),
    ) in
    subst (λ (x : Certificate). IsTextOf IsCert cert_text x text) (sym last.0) made

cert_spelled : (c : Certificate) → IsCert c → CertSpelled c (cert_text c)
cert_spelled c p =
    let head : Head = made_head c.customers c.team c.scale in
    join One (version_line One) _ (inl refl, refl)
    (join head (head_text head) _ (record { customers = p.customers; team = p.team; scale = p.scale }, refl)
    (join c.points (counted_text (codes "points ") point_text c.points) _ (p.points, refl)
    (join c.nodes (counted_text (codes "nodes ") node_text c.nodes) _ (p.nodes, refl)
    (last_word (codes "end\n") c))))

pub cert_reads : Reads (IsTextOf IsCert cert_text) NoByte cert_at
unfolding cert_at
cert_reads =
    texts_read IsCert cert_text
    (bind_reads version_reads
    (λ _. bind_reads head_reads
    (λ head. bind_reads (counted_reads IsListed point_text (codes "points ") point_reads)
    (λ points. bind_reads (counted_reads IsNode node_text (codes "nodes ") node_reads)
    (λ nodes. bind_reads (word_reads (codes "end\n")) (λ _. nothing_reads NoByte (made_cert head points nodes)) (free _))
    (free _))
    (free _))
    (free _))
    (free _))
    cert_text_of cert_spelled

-- ---- one text a certificate

pub begins_no_other : (c d : Certificate) (x y : List ℕ) → IsCert c → IsCert d → cert_text c ++ x ≡ cert_text d ++ y → (c ≡ d) × (x ≡ y)
begins_no_other c d x y p q e =
    let first = cert_reads.again c (cert_text c) x (p, refl) (λ b behind e none. none) in
    let second = cert_reads.again d (cert_text d) y (q, refl) (λ b behind e none. none) in
    let same : ◌≡◌ {A = Result (Certificate × List ℕ) ℕ} (Ok (c, x)) (Ok (d, y)) = sym first ∙ ap cert_at e ∙ second in
    let pair : ◌≡◌ {A = Certificate × List ℕ} (c, x) (d, y) = cc in
    (ap (λ (r : Certificate × List ℕ). r.0) pair, ap (λ (r : Certificate × List ℕ). r.1) pair)

pub one_text : (c d : Certificate) → IsCert c → IsCert d → cert_text c ≡ cert_text d → c ≡ d
one_text c d p q e = (begins_no_other c d [] [] p q (append-nil (cert_text c) ∙ e ∙ sym (append-nil (cert_text d)))).0

-- ---- the whole bytes

record StopsWith (bytes : List ℕ) (left : ℕ) : Type 0 where
  within : left ≤ length bytes
  stops : StopsBeing bytes (length bytes - left)

front_at : (bytes good : List ℕ) (left : ℕ) → length good ≡ length bytes - left → IsLongestFront IsCertText bytes (length good) → IsLongestFront IsCertText bytes (length bytes - left)
front_at bytes good left e p = subst (IsLongestFront IsCertText bytes) e p

stopped_within : (bytes : List ℕ) (left : ℕ) → Stops (IsSpelling (IsTextOf IsCert cert_text)) bytes left → StopsWith bytes left
stopped_within bytes left s =
    let lengths : length bytes ≡ length s.good + length s.bad = ap length s.splits ∙ length-append s.good s.bad in
    record {
      within = omega (arith, lengths, s.left_is);
      stops = record {
        none = λ p. s.none bytes [] p (sym (append-nil bytes));
        front = front_at bytes s.good left (omega (arith, lengths, s.left_is))
            (longest_front IsCertText bytes s.good s.bad s.splits (s.good ++ s.next ∷ s.more, s.next ∷ s.more, s.begins, refl) s.ends);
      };
    }

stopped_behind : (bytes : List ℕ) (c : Certificate) (rest : List ℕ) → cert_at bytes ≡ Ok (c, rest) → (length rest ≡ 0 → ⊥) → StopsWith bytes (length rest)
stopped_behind bytes c rest e something =
    let f = cert_reads.found bytes rest c e in
    let lengths : length bytes ≡ length f.text + length rest = ap length f.splits ∙ length-append f.text rest in
    record {
      within = omega (arith, lengths);
      stops = record {
        none = λ p. let same = begins_no_other c p.0 rest [] f.spelled.0 p.1.0 (ap (λ (x : List ℕ). x ++ rest) (sym f.spelled.1) ∙ sym f.splits ∙ p.1.1 ∙ sym (append-nil (cert_text p.0))) in something (ap length same.1);
        front = front_at bytes f.text (length rest) (omega (arith, lengths))
            (longest_front IsCertText bytes f.text rest f.splits (f.text, [], (c, f.spelled), sym (append-nil f.text)) (λ b behind tail starts p. f.ends b behind tail p.0 starts p.1));
      };
    }

pub whole_found : (bytes : List ℕ) (c : Certificate) → whole_at bytes ≡ Ok c → IsCert c × (bytes ≡ cert_text c)
unfolding whole_at
whole_found bytes c e =
    let first = bind_ok (cert_at bytes) (λ x. cond (eqb (length x.1) 0) (Ok x.0) (Err (length x.1))) c e in
    let f = cert_reads.found bytes first.0.1 first.0.0 first.1 in
    elim (chosen (eqb (length first.0.1) 0) (Ok first.0.0) (Err (length first.0.1)) (Ok c) first.2) [
      | inl t ↦
          let nothing : first.0.1 ≡ [] = nil_from_length first.0.1 (eqb-true _ _ t.0) in
          let same : first.0.0 ≡ c = let h = t.1 in cc in
          (subst IsCert same f.spelled.0, f.splits ∙ ap (λ (x : List ℕ). f.text ++ x) nothing ∙ append-nil f.text ∙ f.spelled.1 ∙ ap cert_text same)
      | inr t ↦ let h = t.1 in absurd cc
    ]

whole_stops : (bytes : List ℕ) (left : ℕ) → whole_at bytes ≡ Err left → StopsWith bytes left
unfolding whole_at
whole_stops bytes left e =
    elim (bind_err (cert_at bytes) (λ x. cond (eqb (length x.1) 0) (Ok x.0) (Err (length x.1))) left e) [
      | inl first ↦ stopped_within bytes left (cert_reads.stopped bytes left first)
      | inr w ↦ elim (chosen (eqb (length w.value.1) 0) (Ok w.value.0) (Err (length w.value.1)) (Err left) w.later) [
        | inl t ↦ let h = t.1 in absurd cc
        | inr t ↦ subst (StopsWith bytes) (let h = t.1 in cc) (stopped_behind bytes w.value.0 w.value.1 w.first (eqb-false _ _ t.0))
      ]
    ]

pub stops_where_none_goes_on : (bytes : List ℕ) → IsCertText bytes ⊎ ((at : ℕ) × StopsBeing bytes at)
stops_where_none_goes_on bytes = by_reading (whole_at bytes) refl
  where
    by_reading : (r : Result Certificate ℕ) → r ≡ whole_at bytes → IsCertText bytes ⊎ ((at : ℕ) × StopsBeing bytes at)
    by_reading (Ok c) e = let f = whole_found bytes c (sym e) in inl (c, f)
    by_reading (Err left) e = inr (length bytes - left, (whole_stops bytes left (sym e)).stops)

refusal : (bytes : List ℕ) (left : ℕ) → StopsWith bytes left → IsRefusal bytes (length bytes - left) (cause_of left)
refusal bytes left p = by_test (eqb left 0) refl
  where
    by_test : (t : Bool) → t ≡ eqb left 0 → IsRefusal bytes (length bytes - left) (cond t End Syntax)
    by_test true e = let h = eqb-true left 0 (sym e) in record { stops = p.stops; at_end = (λ _. omega arith, λ _. refl) }
    by_test false e = let h = eqb-false left 0 (sym e) in record { stops = p.stops; at_end = (λ x. absurd cc, λ x. absurd (h (omega (arith, p.within)))) }

pub refuses : (bytes : List ℕ) (fail : ReadFail) (out : TextFail) → Fails fail (whole_at bytes) → Placed (length bytes) fail out → Refuses bytes out
refuses bytes Memory out f p = subst (Refuses bytes) (sym p) tt
refuses bytes (Stopped stop) out f p = subst (Refuses bytes) (sym p) (refusal bytes stop.left (whole_stops bytes stop.left f))
