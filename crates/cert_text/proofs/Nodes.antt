-- Each node line is read exactly.
use Rattle.std.proofs.Common.{◌≡◌, ℕ, ◌≤◌, List, [], ◌∷◌, ◌++◌, length, Ok, refl, sym, ap, subst, ◌∙◌, inl, inr, arith, ℤ}
use Rattle.std.specs.Prelude.{decimal, codes}
use Rattle.std.specs.List.{flat_map}
use Rattle.orienteering.specs.declared.Price.{Price}
use Rattle.orienteering.specs.declared.Reason.{Reason}
use Rattle.orienteering.specs.declared.Reason.TheVariants.{NoBox, Cycle, Late, Side, Many, Few}
use Rattle.orienteering.specs.declared.Node.{Node}
use Rattle.orienteering.specs.declared.Node.TheVariants as nodes
use Rattle.cert_text.specs.declared.node.NodeKind.{NodeKind}
use Rattle.cert_text.specs.declared.node.NodeKind.TheVariants.{Profit, Time, Count, Arc, Cut, Dominated, Cutoff, Stuck, Open}
use Rattle.text_parts.specs.Reading.{U32, U64, Reading, word_at, list_at, one_of}
use Rattle.text_parts.specs.Reads.{Reads, NoByte}
use Rattle.text_parts.specs.Texts.{ended_number, WordText, NumberText, IsDigit, IsTextOf}
use Rattle.text_parts.proofs.Laws.{Joins, bind, Follows, bind_reads}
use Rattle.text_parts.proofs.Parts.{word_reads, IsNothing, nothing_reads, IsMapped, mapped_reads}
use Rattle.text_parts.proofs.Numbers.{number_reads}
use Rattle.text_parts.proofs.Keywords.{IsKeyword, Among, keyword_reads}
use Rattle.text_parts.proofs.Lists.{follows_list, IsListThen, list_reads, listing, listed}
use Rattle.text_parts.proofs.Sequences.{free, both, texts_read, join, last_word, last_word_is, AtMost, Spaced, Lined, spaced_reads, lined_reads}
use Rattle.cert_text.specs.Reading.{call_at, arc_at, cut_at, body_at, node_at, kind_text, all_kinds, all_reasons}
use Rattle.cert_text.specs.Text.{call_text, calls_text, entry_text, cut_text, reason_text, node_text, IsCall, IsCalls, IsEntry, IsPrice, IsNode}
use Rattle.cert_text.proofs.Lines.{call_reads, call_guards, entry_reads, entry_guards}

-- ---- keywords

abbrev ReasonSpelled : Reason → List ℕ → Type 0
ReasonSpelled = IsKeyword reason_text all_reasons

reason_reads : Reads ReasonSpelled NoByte (one_of reason_text all_reasons)
reason_reads = keyword_reads reason_text NoBox (Cycle ∷ Late ∷ Side ∷ Many ∷ Few ∷ []) refl

reason_among : (r : Reason) → Among r all_reasons
reason_among NoBox = inl refl
reason_among Cycle = inr (inl refl)
reason_among Late = inr (inr (inl refl))
reason_among Side = inr (inr (inr (inl refl)))
reason_among Many = inr (inr (inr (inr (inl refl))))
reason_among Few = inr (inr (inr (inr (inr (inl refl)))))

kind_reads : Reads (IsKeyword kind_text all_kinds) NoByte (one_of kind_text all_kinds)
kind_reads = keyword_reads kind_text Profit (Time ∷ Count ∷ Arc ∷ Cut ∷ Dominated ∷ Cutoff ∷ Stuck ∷ Open ∷ []) refl

kind_among : (k : NodeKind) → Among k all_kinds
kind_among Profit = inl refl
kind_among Time = inr (inl refl)
kind_among Count = inr (inr (inl refl))
kind_among Arc = inr (inr (inr (inl refl)))
kind_among Cut = inr (inr (inr (inr (inl refl))))
kind_among Dominated = inr (inr (inr (inr (inr (inl refl)))))
kind_among Cutoff = inr (inr (inr (inr (inr (inr (inl refl))))))
kind_among Stuck = inr (inr (inr (inr (inr (inr (inr (inl refl)))))))
kind_among Open = inr (inr (inr (inr (inr (inr (inr (inr (inl refl))))))))

-- ---- bodies

abbrev made_cut : ℕ → ℕ → List (ℕ × ℤ) → List ℕ → Node
made_cut alpha beta entries critical = nodes.Cut (record { alpha = alpha; beta = beta; pi = entries }) critical

abbrev CriticalSpelled : ℕ → ℕ → ℕ → List (ℕ × ℤ) → Node → List ℕ → Type 0
CriticalSpelled alpha beta count entries = IsListThen count (IsTextOf IsCall call_text) (λ critical. Joins (WordText (codes "\n")) (λ _. IsNothing (made_cut alpha beta entries critical)))

abbrev ListsSpelled : ℕ → ℕ → ℕ → ℕ → Node → List ℕ → Type 0
ListsSpelled alpha beta prices count = IsListThen prices (IsTextOf IsEntry entry_text) (CriticalSpelled alpha beta count)

abbrev CutSpelled : Node → List ℕ → Type 0
CutSpelled = Joins (Spaced U32) (λ alpha. Joins (Spaced U32) (λ beta. Joins (Spaced U64) (λ prices. Joins (NumberText U64) (ListsSpelled alpha beta prices))))

critical_end : (alpha beta : ℕ) (entries : List (ℕ × ℤ)) → Follows IsDigit (λ critical. Joins (WordText (codes "\n")) (λ _. IsNothing (made_cut alpha beta entries critical)))
critical_end alpha beta entries critical c text rest j b behind e digit =
    let front : text ++ rest ≡ 10 ∷ (j.second ++ rest) = ap (λ (x : List ℕ). x ++ rest) (j.joined ∙ ap (λ (x : List ℕ). x ++ j.second) j.key_spelled) in
    let same : b ≡ 10 = cc in
    let ten : IsDigit 10 = subst IsDigit same digit in
    omega arith

critical_follow : (alpha beta count : ℕ) → Follows IsDigit (CriticalSpelled alpha beta count)
critical_follow alpha beta count entries = follows_list call_guards count (λ critical. Joins (WordText (codes "\n")) (λ _. IsNothing (made_cut alpha beta entries critical))) (critical_end alpha beta entries)

abbrev lists_next : ℕ → ℕ → ℕ → List (ℕ × ℤ) → Reading Node
lists_next alpha beta count entries = bind (list_at count call_at) (λ critical. bind (word_at (codes "\n")) (λ _ bytes. Ok (made_cut alpha beta entries critical, bytes)))

critical_reads : (alpha beta count : ℕ) (entries : List (ℕ × ℤ)) → Reads (CriticalSpelled alpha beta count entries) NoByte (lists_next alpha beta count entries)
critical_reads alpha beta count entries =
    list_reads call_reads call_guards count (λ critical. Joins (WordText (codes "\n")) (λ _. IsNothing (made_cut alpha beta entries critical)))
    (λ critical. bind (word_at (codes "\n")) (λ _ bytes. Ok (made_cut alpha beta entries critical, bytes)))
    (λ critical. bind_reads (word_reads (codes "\n")) (λ _. nothing_reads NoByte (made_cut alpha beta entries critical)) (free _))
    (critical_end alpha beta entries)

cut_reads : Reads CutSpelled NoByte cut_at
unfolding cut_at
cut_reads =
    bind_reads (spaced_reads U32 (omega arith))
    (λ alpha. bind_reads (spaced_reads U32 (omega arith))
    (λ beta. bind_reads (spaced_reads U64 (omega arith))
    (λ prices. bind_reads (number_reads U64 (omega arith))
    (λ count. list_reads entry_reads entry_guards prices (CriticalSpelled alpha beta count) (lists_next alpha beta count) (critical_reads alpha beta count) (critical_follow alpha beta count))
    (λ count. follows_list entry_guards prices (CriticalSpelled alpha beta count) (critical_follow alpha beta count)))
    (free _))
    (free _))
    (free _)

abbrev ArcSpelled : Node → List ℕ → Type 0
ArcSpelled = Joins (Spaced U32) (λ i. IsMapped (nodes.Arc i) (Lined U32))

arc_reads : Reads ArcSpelled NoByte arc_at
unfolding arc_at
arc_reads = bind_reads (spaced_reads U32 (omega arith)) (λ i. mapped_reads (nodes.Arc i) (lined_reads U32 (omega arith))) (free _)

abbrev BodySpelled : NodeKind → Node → List ℕ → Type 0
BodySpelled Profit = IsMapped nodes.Profit (Lined U64)
BodySpelled Time = IsMapped nodes.Time (Lined U64)
BodySpelled Count = IsMapped nodes.Count (Lined U32)
BodySpelled Arc = ArcSpelled
BodySpelled Cut = CutSpelled
BodySpelled Dominated = IsNothing nodes.Dominated
BodySpelled Cutoff = IsMapped nodes.Cutoff (Lined U64)
BodySpelled Stuck = IsMapped nodes.Stuck ReasonSpelled
BodySpelled Open = IsNothing nodes.Left

body_reads : (k : NodeKind) → Reads (BodySpelled k) NoByte (body_at k)
unfolding body_at
body_reads Profit = mapped_reads nodes.Profit (lined_reads U64 (omega arith))
body_reads Time = mapped_reads nodes.Time (lined_reads U64 (omega arith))
body_reads Count = mapped_reads nodes.Count (lined_reads U32 (omega arith))
body_reads Arc = arc_reads
body_reads Cut = cut_reads
body_reads Dominated = nothing_reads NoByte nodes.Dominated
body_reads Cutoff = mapped_reads nodes.Cutoff (lined_reads U64 (omega arith))
body_reads Stuck = mapped_reads nodes.Stuck reason_reads
body_reads Open = nothing_reads NoByte nodes.Left

-- ---- the texts

-- the node is valid and the two texts make its text
record Makes (word : List ℕ) (n : Node) (text : List ℕ) : Type 0 where
  valid : IsNode n
  text_is : word ++ text ≡ node_text n

same_node : (word : List ℕ) (m n : Node) (text : List ℕ) → n ≡ m → Makes word m text → Makes word n text
same_node word m n text e p = subst (λ (x : Node). Makes word x text) (sym e) p

cut_makes : (n : Node) (text : List ℕ) → CutSpelled n text → Makes (codes "cut ") n text
cut_makes n text alpha =
    let beta = alpha.spelled in
    let prices = beta.spelled in
    let count = prices.spelled in
    let entries = listing IsEntry entry_text (λ a t p. p) prices.key (CriticalSpelled alpha.key beta.key count.key) n count.second count.spelled in
    let critical = listing IsCall call_text (λ a t p. p) count.key (λ xs. Joins (WordText (codes "\n")) (λ _. IsNothing (made_cut alpha.key beta.key entries.items xs))) n entries.behind entries.under in
    let last = last_word_is (codes "\n") (made_cut alpha.key beta.key entries.items critical.items) n critical.behind critical.under in
    same_node (codes "cut ") (made_cut alpha.key beta.key entries.items critical.items) n text last.0
    record {
      valid = (
        record { alpha = omega (arith, alpha.key_spelled.0); beta = omega (arith, beta.key_spelled.0); entries = (omega (arith, entries.count, prices.key_spelled.0), entries.valid) },
        (omega (arith, critical.count, count.key_spelled.bounded), critical.valid),
      );
      text_is = ap (λ (x : List ℕ). codes "cut " ++ x)
          (both alpha.joined alpha.key_spelled.1 (both beta.joined beta.key_spelled.1 (both prices.joined (prices.key_spelled.1 ∙ ap (ended_number (codes " ")) (sym entries.count))
          (both count.joined (count.key_spelled.text_is ∙ ap decimal (sym critical.count)) (both entries.joined refl (both critical.joined refl last.1))))));
    }

body_makes : (k : NodeKind) (n : Node) (text : List ℕ) → BodySpelled k n text → Makes (kind_text k) n text
body_makes Profit n text m = same_node (codes "profit ") (nodes.Profit m.of) n text m.value_is record { valid = omega (arith, m.spelled.0); text_is = ap (λ (x : List ℕ). codes "profit " ++ x) m.spelled.1 }
body_makes Time n text m = same_node (codes "time ") (nodes.Time m.of) n text m.value_is record { valid = omega (arith, m.spelled.0); text_is = ap (λ (x : List ℕ). codes "time " ++ x) m.spelled.1 }
body_makes Count n text m = same_node (codes "count ") (nodes.Count m.of) n text m.value_is record { valid = omega (arith, m.spelled.0); text_is = ap (λ (x : List ℕ). codes "count " ++ x) m.spelled.1 }
body_makes Arc n text i =
    let j = i.spelled in
    same_node (codes "arc ") (nodes.Arc i.key j.of) n text j.value_is
    record { valid = (omega (arith, i.key_spelled.0), omega (arith, j.spelled.0)); text_is = ap (λ (x : List ℕ). codes "arc " ++ x) (both i.joined i.key_spelled.1 j.spelled.1) }
body_makes Cut n text p = cut_makes n text p
body_makes Dominated n text p = same_node (codes "dominated\n") nodes.Dominated n text p.0 record { valid = tt; text_is = ap (λ (x : List ℕ). codes "dominated\n" ++ x) p.1 }
body_makes Cutoff n text m = same_node (codes "cutoff ") (nodes.Cutoff m.of) n text m.value_is record { valid = omega (arith, m.spelled.0); text_is = ap (λ (x : List ℕ). codes "cutoff " ++ x) m.spelled.1 }
body_makes Stuck n text m = same_node (codes "stuck ") (nodes.Stuck m.of) n text m.value_is record { valid = tt; text_is = ap (λ (x : List ℕ). codes "stuck " ++ x) m.spelled.1 }
body_makes Open n text p = same_node (codes "open\n") nodes.Left n text p.0 record { valid = tt; text_is = ap (λ (x : List ℕ). codes "open\n" ++ x) p.1 }

abbrev NodeSpelled : Node → List ℕ → Type 0
NodeSpelled = Joins (IsKeyword kind_text all_kinds) BodySpelled

node_text_of : (n : Node) (text : List ℕ) → NodeSpelled n text → IsTextOf IsNode node_text n text
node_text_of n text j =
    let m = body_makes j.key n j.second j.spelled in
    (m.valid, both j.joined j.key_spelled.1 refl ∙ m.text_is)

kind_first : (k : NodeKind) (n : Node) (text : List ℕ) → BodySpelled k n text → NodeSpelled n (kind_text k ++ text)
kind_first k n text p = join k (kind_text k) text (kind_among k, refl) p

number_spelled : {max : ℕ} {n : ℕ} → (end : List ℕ) → n ≤ max → IsTextOf (AtMost max) (ended_number end) n (ended_number end n)
number_spelled end le = (le, refl)

cut_spelled : (price : Price) (critical : List ℕ) → IsPrice price → IsCalls critical → CutSpelled (nodes.Cut price critical) (cut_text price critical)
cut_spelled price critical p q =
    join price.alpha (ended_number (codes " ") price.alpha) _ (omega (arith, p.alpha), refl)
    (join price.beta (ended_number (codes " ") price.beta) _ (omega (arith, p.beta), refl)
    (join (length price.pi) (ended_number (codes " ") (length price.pi)) _ (omega (arith, p.entries.0), refl)
    (join (length critical) (decimal (length critical)) (flat_map entry_text price.pi ++ calls_text critical) record { bounded = omega (arith, q.0); text_is = refl }
    (listed (IsTextOf IsEntry entry_text) IsEntry entry_text (λ a v. (v, refl)) price.pi (CriticalSpelled price.alpha price.beta (length critical)) (nodes.Cut price critical) (calls_text critical) p.entries.1
    (listed (IsTextOf IsCall call_text) IsCall call_text (λ a v. (v, refl)) critical (λ xs. Joins (WordText (codes "\n")) (λ _. IsNothing (made_cut price.alpha price.beta price.pi xs))) (nodes.Cut price critical) (codes "\n") q.1
    (last_word (codes "\n") (nodes.Cut price critical)))))))

node_spelled : (n : Node) → IsNode n → NodeSpelled n (node_text n)
node_spelled (nodes.Profit v) p = kind_first Profit (nodes.Profit v) (ended_number (codes "\n") v) record { of = v; value_is = refl; spelled = (omega (arith, p), refl) }
node_spelled (nodes.Time v) p = kind_first Time (nodes.Time v) (ended_number (codes "\n") v) record { of = v; value_is = refl; spelled = (omega (arith, p), refl) }
node_spelled (nodes.Count c) p = kind_first Count (nodes.Count c) (ended_number (codes "\n") c) record { of = c; value_is = refl; spelled = (omega (arith, p), refl) }
node_spelled (nodes.Arc i j) p =
    kind_first Arc (nodes.Arc i j) (ended_number (codes " ") i ++ ended_number (codes "\n") j)
    (join i (ended_number (codes " ") i) (ended_number (codes "\n") j) (omega (arith, p.0), refl) record { of = j; value_is = refl; spelled = (omega (arith, p.1), refl) })
node_spelled (nodes.Cut price critical) p = kind_first Cut (nodes.Cut price critical) (cut_text price critical) (cut_spelled price critical p.0 p.1)
node_spelled nodes.Dominated p = kind_first Dominated nodes.Dominated [] (refl, refl)
node_spelled (nodes.Cutoff k) p = kind_first Cutoff (nodes.Cutoff k) (ended_number (codes "\n") k) record { of = k; value_is = refl; spelled = (omega (arith, p), refl) }
node_spelled (nodes.Stuck r) p = kind_first Stuck (nodes.Stuck r) (reason_text r) record { of = r; value_is = refl; spelled = (reason_among r, refl) }
node_spelled nodes.Left p = kind_first Open nodes.Left [] (refl, refl)

pub node_reads : Reads (IsTextOf IsNode node_text) NoByte node_at
unfolding node_at
node_reads = texts_read IsNode node_text (bind_reads kind_reads body_reads (free _)) node_text_of node_spelled
