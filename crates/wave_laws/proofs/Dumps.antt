-- What is read of a whole dump.
use Rattle.std.specs.Prelude.{codes}
use Rattle.std.proofs.Common.{◌≡◌, ℕ, zero, suc, ◌+◌, ◌*◌, ◌^◌, ◌<◌, ◌≤◌, ◌==◌, Bool, true, false, cond, List, [], ◌∷◌, ◌++◌, map, length, Some, None, Ok, Ordering, Equal, refl, sym, subst, ap, ◌∙◌, arith, append_assoc, append-nil}
use Rattle.std.specs.Ordering.{nat_cmp, is_eq}
use Rattle.std.proofs.lemmas.Bool.{and_from, le-ltb, eqb-true, eqb-false, eq-eqb}
use Rattle.nand_geometry.specs.declared.parts.Parts.{Parts}
use Rattle.onfi_cycle.specs.declared.item.Item.{Item}
use Rattle.bus_lines.specs.Lines.{idle}
use Rattle.trace_wave.specs.Header.{variable, digit, target_lines, bit_lines, lun_lines, all_lun_lines, channel_lines, bus_lines, model_lines, settings}
use Rattle.trace_wave.specs.Levels.{levels}
use Rattle.trace_wave.specs.Wave.{begun, after_all, frames, last_frame, dump}
use Rattle.vcd_text.specs.Body.{Widths, Time, width_of, told_from}
use Rattle.vcd_text.specs.Dumps.{beginning}
use Rattle.vcd_text.specs.Words.{Word, words_from}
use Rattle.vcd_text.specs.Header.{Header, Variable, blank, reading, header}
use Rattle.vcd_text.proofs.Signals.{word_at}
use Rattle.wave_laws.specs.Told.{signal, target_signals, bit_signals, lun_signals, all_lun_signals, channel_signals, signals_of, setting_events, events_from, last_events, events_of, Tells}
use Rattle.wave_laws.proofs.Texts.{is_dark, word_before, word_through, Says, have_bits, is_one, says_zero, says_mark, says_both, says_settings}
use Rattle.wave_laws.proofs.Levels.{line_count, length_levels, bits_levels}
use Rattle.wave_laws.proofs.Frames.{of_frames}
use Rattle.wave_laws.proofs.Headers.{bits_from, so_far, is_above, declared_text, are_in_order, declares_all}

-- ---- 1. the text of the header is that of its signals

text_append : (ss more : List Variable) → declared_text (ss ++ more) ≡ declared_text ss ++ declared_text more
text_append [] more = refl
text_append (s ∷ ss) more =
    ap (λ (t : List ℕ). variable s.code s.name ++ t) (text_append ss more)
    ∙ sym (append_assoc (variable s.code s.name) (declared_text ss) (declared_text more))

target_text : (code : ℕ) (name : List ℕ) (count n : ℕ) → target_lines code name count n ≡ declared_text (target_signals code name count n)
target_text code name zero n = refl
target_text code name (suc count) n = ap (λ (t : List ℕ). variable code (name ++ (digit n ∷ codes "_n")) ++ t) (target_text (code + 1) name count (n + 1))

bit_text : (code : ℕ) (name : List ℕ) (count : ℕ) → bit_lines code name count ≡ declared_text (bit_signals code name count)
bit_text code name zero = refl
bit_text code name (suc count) = ap (λ (t : List ℕ). variable code (name ++ (codes "[" ++ (digit count ∷ codes "]"))) ++ t) (bit_text (code + 1) name count)

lun_text : (code ce lun : ℕ) → lun_lines code ce lun ≡ declared_text (lun_signals code ce lun)
lun_text code ce lun =
    let of_lun = digit ce ∷ (codes "_" ++ (digit lun ∷ [])) in
    ap (λ (t : List ℕ). variable code (codes "busy" ++ of_lun) ++ (variable (code + 1) (codes "array" ++ of_lun) ++ t)) (sym (append-nil (variable (code + 2) (codes "fail" ++ of_lun))))

all_lun_text : (code ce count n : ℕ) → all_lun_lines code ce count n ≡ declared_text (all_lun_signals code ce count n)
all_lun_text code ce zero n = refl
all_lun_text code ce (suc count) n =
    ap (λ (t : List ℕ). t ++ all_lun_lines (code + 3) ce count (n + 1)) (lun_text code ce n)
    ∙ ap (λ (t : List ℕ). declared_text (lun_signals code ce n) ++ t) (all_lun_text (code + 3) ce count (n + 1))
    ∙ sym (text_append (lun_signals code ce n) (all_lun_signals (code + 3) ce count (n + 1)))

channel_text : (code luns count n : ℕ) → channel_lines code luns count n ≡ declared_text (channel_signals code luns count n)
channel_text code luns zero n = refl
channel_text code luns (suc count) n =
    ap (λ (t : List ℕ). t ++ channel_lines (code + 3 * luns) luns count (n + 1)) (all_lun_text code n luns 0)
    ∙ ap (λ (t : List ℕ). declared_text (all_lun_signals code n luns 0) ++ t) (channel_text (code + 3 * luns) luns count (n + 1))
    ∙ sym (text_append (all_lun_signals code n luns 0) (channel_signals (code + 3 * luns) luns count (n + 1)))

six : (a b c d e f m : List ℕ) → (a ++ (b ++ (c ++ (d ++ (e ++ f))))) ++ m ≡ a ++ (b ++ (c ++ (d ++ (e ++ (f ++ m)))))
six a b c d e f m =
    append_assoc a (b ++ (c ++ (d ++ (e ++ f)))) m
    ∙ ap (λ (t : List ℕ). a ++ t) (append_assoc b (c ++ (d ++ (e ++ f))) m
    ∙ ap (λ (t : List ℕ). b ++ t) (append_assoc c (d ++ (e ++ f)) m
    ∙ ap (λ (t : List ℕ). c ++ t) (append_assoc d (e ++ f) m ∙ ap (λ (t : List ℕ). d ++ t) (append_assoc e f m))))

-- the signals behind those of the bus
abbrev model_signals : (targets luns : ℕ) → List Variable
model_signals targets luns = target_signals (45 + targets) (codes "RB") targets 0 ++ (channel_signals (45 + targets + targets) luns targets 0 ++ bit_signals (45 + targets + targets + 3 * (targets * luns)) (codes "rule") 5)

model_text : (targets luns : ℕ) → model_lines (45 + targets) targets luns ≡ declared_text (model_signals targets luns)
model_text targets luns =
    let ready = target_signals (45 + targets) (codes "RB") targets 0 in
    let channel = channel_signals (45 + targets + targets) luns targets 0 in
    let rule = bit_signals (45 + targets + targets + 3 * (targets * luns)) (codes "rule") 5 in
    ap (λ (t : List ℕ). t ++ (channel_lines (45 + targets + targets) luns targets 0 ++ bit_lines (45 + targets + targets + 3 * (targets * luns)) (codes "rule") 5)) (target_text (45 + targets) (codes "RB") targets 0)
    ∙ ap (λ (t : List ℕ). declared_text ready ++ (t ++ bit_lines (45 + targets + targets + 3 * (targets * luns)) (codes "rule") 5)) (channel_text (45 + targets + targets) luns targets 0)
    ∙ ap (λ (t : List ℕ). declared_text ready ++ (declared_text channel ++ t)) (bit_text (45 + targets + targets + 3 * (targets * luns)) (codes "rule") 5)
    ∙ ap (λ (t : List ℕ). declared_text ready ++ t) (sym (text_append channel rule))
    ∙ sym (text_append ready (channel ++ rule))

signals_text : (targets luns : ℕ) → bus_lines targets ++ model_lines (45 + targets) targets luns ≡ declared_text (signals_of targets luns)
signals_text targets luns =
    let model = model_signals targets luns in
    let enables = target_signals 33 (codes "CE") targets 0 in
    let cle = variable (33 + targets) (codes "CLE") in
    let ale = variable (34 + targets) (codes "ALE") in
    let we = variable (35 + targets) (codes "WE_n") in
    let re = variable (36 + targets) (codes "RE_n") in
    let dq = bit_signals (37 + targets) (codes "DQ") 8 in
    ap (λ (t : List ℕ). bus_lines targets ++ t) (model_text targets luns)
    ∙ six (target_lines 33 (codes "CE") targets 0) cle ale we re (bit_lines (37 + targets) (codes "DQ") 8) (declared_text model)
    ∙ ap (λ (t : List ℕ). t ++ (cle ++ (ale ++ (we ++ (re ++ (bit_lines (37 + targets) (codes "DQ") 8 ++ declared_text model)))))) (target_text 33 (codes "CE") targets 0)
    ∙ ap (λ (t : List ℕ). declared_text enables ++ (cle ++ (ale ++ (we ++ (re ++ (t ++ declared_text model)))))) (bit_text (37 + targets) (codes "DQ") 8)
    ∙ ap (λ (t : List ℕ). declared_text enables ++ (cle ++ (ale ++ (we ++ (re ++ t))))) (sym (text_append dq model))
    ∙ sym (text_append enables (signal (33 + targets) (codes "CLE") ∷ (signal (34 + targets) (codes "ALE") ∷ (signal (35 + targets) (codes "WE_n") ∷ (signal (36 + targets) (codes "RE_n") ∷ (dq ++ model))))))

-- ---- 2. each width

record InOrder (targets luns : ℕ) : Type 0 where
  ordered : are_in_order 33 (signals_of targets luns) ≡ true
  count : length (signals_of targets luns) ≡ line_count targets luns

pub each_of_four : (P : ℕ → Type 0) → P 1 → P 2 → P 3 → P 4 → (n : ℕ) → 1 ≤ n → n ≤ 4 → P n
each_of_four P one two three four zero h k = absurd (omega (arith, h))
each_of_four P one two three four (suc zero) h k = one
each_of_four P one two three four (suc (suc zero)) h k = two
each_of_four P one two three four (suc (suc (suc zero))) h k = three
each_of_four P one two three four (suc (suc (suc (suc zero)))) h k = four
each_of_four P one two three four (suc (suc (suc (suc (suc n))))) h k = absurd (omega (arith, k))

of_luns_1 : (luns : ℕ) → 1 ≤ luns → luns ≤ 4 → InOrder 1 luns
of_luns_1 = each_of_four (InOrder 1) (record { ordered = refl; count = refl }) (record { ordered = refl; count = refl }) (record { ordered = refl; count = refl }) (record { ordered = refl; count = refl })

of_luns_2 : (luns : ℕ) → 1 ≤ luns → luns ≤ 4 → InOrder 2 luns
of_luns_2 = each_of_four (InOrder 2) (record { ordered = refl; count = refl }) (record { ordered = refl; count = refl }) (record { ordered = refl; count = refl }) (record { ordered = refl; count = refl })

of_luns_3 : (luns : ℕ) → 1 ≤ luns → luns ≤ 4 → InOrder 3 luns
of_luns_3 = each_of_four (InOrder 3) (record { ordered = refl; count = refl }) (record { ordered = refl; count = refl }) (record { ordered = refl; count = refl }) (record { ordered = refl; count = refl })

of_luns_4 : (luns : ℕ) → 1 ≤ luns → luns ≤ 4 → InOrder 4 luns
of_luns_4 = each_of_four (InOrder 4) (record { ordered = refl; count = refl }) (record { ordered = refl; count = refl }) (record { ordered = refl; count = refl }) (record { ordered = refl; count = refl })

all_in_order : (targets luns : ℕ) → 1 ≤ targets → targets ≤ 4 → 1 ≤ luns → luns ≤ 4 → InOrder targets luns
all_in_order targets luns some few h k = each_of_four (λ n. InOrder n luns) (of_luns_1 luns h k) (of_luns_2 luns h k) (of_luns_3 luns h k) (of_luns_4 luns h k) targets some few

is_equal : (code c : ℕ) → code ≡ c → nat_cmp code c ≡ Equal
is_equal code c h = rw (le-ltb code c (omega (arith, h))) (rw (eq-eqb code c h) refl)

width_there : (k c code : ℕ) → c ≤ code → code < c + k → width_of (bits_from c k) code ≡ Some 1
width_there zero c code h t = absurd (omega (arith, h, t))
width_there (suc k) c code h t = at (c == code) refl (width_there k (c + 1) code)
  where
    at : (x : Bool) → c == code ≡ x → (c + 1 ≤ code → code < c + 1 + k → width_of (bits_from (c + 1) k) code ≡ Some 1) → width_of (bits_from c (suc k)) code ≡ Some 1
    at true e go = ap (λ (o : Ordering). cond (is_eq o) (Some 1) (width_of (bits_from (c + 1) k) code)) (is_equal code c (sym (eqb-true c code e)))
    at false e go =
        let ne = eqb-false c code e in
        let other : c < code = omega (arith, h, ne) in
        ap (λ (o : Ordering). cond (is_eq o) (Some 1) (width_of (bits_from (c + 1) k) code)) (is_above code c other)
        ∙ go (omega (arith, other)) (omega (arith, t))

have_within : (count code k : ℕ) → 33 ≤ code → code + count ≤ 33 + k → have_bits (bits_from 33 k) code count ≡ true
have_within zero code k h t = refl
have_within (suc count) code k h t =
    and_from (is_one (width_of (bits_from 33 k) code)) (have_bits (bits_from 33 k) (code + 1) count)
    (ap is_one (width_there k 33 code h (omega (arith, t))))
    (have_within count (code + 1) k (omega (arith, h)) (omega (arith, t)))

-- ---- 3. the header

word_then : (line b : ℕ) (word X : List ℕ) (ws : List Word) → is_dark (b ∷ word) ≡ true → words_from line [] X ≡ ws → words_from line [] ((b ∷ word) ++ (32 ∷ X)) ≡ word_at line (b ∷ word) ∷ ws
word_then line b word X ws h later = word_before (b ∷ word) [] line 32 X refl h ∙ ap (λ (ws : List Word). word_at line (b ∷ word) ∷ ws) later

line_then : (line b : ℕ) (word X : List ℕ) (ws : List Word) → is_dark (b ∷ word) ≡ true → words_from (line + 1) [] X ≡ ws → words_from line [] ((b ∷ word) ++ (10 ∷ X)) ≡ word_at line (b ∷ word) ∷ ws
line_then line b word X ws h later = word_through (b ∷ word) line X h ∙ ap (λ (ws : List Word). word_at line (b ∷ word) ∷ ws) later

-- its first lines
abbrev version_words : List Word → List Word
version_words ws = word_at 1 (codes "$version") ∷ (word_at 1 (codes "onfiseq") ∷ (word_at 1 (codes "$end") ∷ ws))

abbrev timescale_words : List Word → List Word
timescale_words ws = word_at 2 (codes "$timescale") ∷ (word_at 2 (codes "1") ∷ (word_at 2 (codes "ns") ∷ (word_at 2 (codes "$end") ∷ ws)))

abbrev scope_words : List Word → List Word
scope_words ws = word_at 3 (codes "$scope") ∷ (word_at 3 (codes "module") ∷ (word_at 3 (codes "channel") ∷ (word_at 3 (codes "$end") ∷ ws)))

opening_words : (X : List ℕ) → words_from 1 [] (codes "$version onfiseq $end\n$timescale 1 ns $end\n$scope module channel $end\n" ++ X) ≡ version_words (timescale_words (scope_words (words_from 4 [] X)))
opening_words X =
    let scope = scope_words (words_from 4 [] X) in
    let scope_text = codes "$scope module channel $end\n" ++ X in
    let timescale_text = codes "$timescale 1 ns $end\n" ++ scope_text in
    word_then 1 36 (codes "version") (codes "onfiseq $end\n" ++ timescale_text) (word_at 1 (codes "onfiseq") ∷ (word_at 1 (codes "$end") ∷ timescale_words scope)) refl (
    word_then 1 111 (codes "nfiseq") (codes "$end\n" ++ timescale_text) (word_at 1 (codes "$end") ∷ timescale_words scope) refl (
    line_then 1 36 (codes "end") timescale_text (timescale_words scope) refl (
    word_then 2 36 (codes "timescale") (codes "1 ns $end\n" ++ scope_text) (word_at 2 (codes "1") ∷ (word_at 2 (codes "ns") ∷ (word_at 2 (codes "$end") ∷ scope))) refl (
    word_then 2 49 [] (codes "ns $end\n" ++ scope_text) (word_at 2 (codes "ns") ∷ (word_at 2 (codes "$end") ∷ scope)) refl (
    word_then 2 110 (codes "s") (codes "$end\n" ++ scope_text) (word_at 2 (codes "$end") ∷ scope) refl (
    line_then 2 36 (codes "end") scope_text scope refl (
    word_then 3 36 (codes "scope") (codes "module channel $end\n" ++ X) (word_at 3 (codes "module") ∷ (word_at 3 (codes "channel") ∷ (word_at 3 (codes "$end") ∷ words_from 4 [] X))) refl (
    word_then 3 109 (codes "odule") (codes "channel $end\n" ++ X) (word_at 3 (codes "channel") ∷ (word_at 3 (codes "$end") ∷ words_from 4 [] X)) refl (
    word_then 3 99 (codes "hannel") (codes "$end\n" ++ X) (word_at 3 (codes "$end") ∷ words_from 4 [] X) refl (
    line_then 3 36 (codes "end") X (words_from 4 [] X) refl refl))))))))))

version_read : (ws : List Word) → reading blank None 1 (version_words ws) ≡ reading blank None 1 ws
version_read ws = refl

timescale_read : (ws : List Word) → reading blank None 1 (timescale_words ws) ≡ reading blank None 2 ws
timescale_read ws = refl

scope_read : (ws : List Word) → reading blank None 2 (scope_words ws) ≡ reading blank None 3 ws
scope_read ws = refl

opening : (X : List ℕ) → reading blank None 1 (words_from 1 [] (codes "$version onfiseq $end\n$timescale 1 ns $end\n$scope module channel $end\n" ++ X)) ≡ reading (so_far [] 0) None 3 (words_from 4 [] X)
opening X =
    let ws = words_from 4 [] X in
    ap (reading blank None 1) (opening_words X) ∙ version_read (timescale_words (scope_words ws)) ∙ timescale_read (scope_words ws) ∙ scope_read ws

-- and its last
abbrev upscope_words : (line : ℕ) → List Word → List Word
upscope_words line ws = word_at line (codes "$upscope") ∷ (word_at line (codes "$end") ∷ ws)

abbrev last_words : (line : ℕ) → List Word → List Word
last_words line ws = word_at line (codes "$enddefinitions") ∷ (word_at line (codes "$end") ∷ ws)

closing_words : (line : ℕ) (X : List ℕ) → words_from line [] (codes "$upscope $end\n$enddefinitions $end\n" ++ X) ≡ upscope_words line (last_words (line + 1) (words_from (line + 1 + 1) [] X))
closing_words line X =
    let last = last_words (line + 1) (words_from (line + 1 + 1) [] X) in
    let last_text = codes "$enddefinitions $end\n" ++ X in
    word_then line 36 (codes "upscope") (codes "$end\n" ++ last_text) (word_at line (codes "$end") ∷ last) refl (
    line_then line 36 (codes "end") last_text last refl (
    word_then (line + 1) 36 (codes "enddefinitions") (codes "$end\n" ++ X) (word_at (line + 1) (codes "$end") ∷ words_from (line + 1 + 1) [] X) refl (
    line_then (line + 1) 36 (codes "end") X (words_from (line + 1 + 1) [] X) refl refl)))

upscope_read : (h : Header) (l line : ℕ) (ws : List Word) → reading h None l (upscope_words line ws) ≡ reading h None line ws
upscope_read h l line ws = refl

last_read : (h : Header) (l line : ℕ) (ws : List Word) → reading h None l (last_words line ws) ≡ Ok (record { header = h; line = line; rest = ws })
last_read h l line ws = refl

closing : (h : Header) (l line : ℕ) (X : List ℕ) → reading h None l (words_from line [] (codes "$upscope $end\n$enddefinitions $end\n" ++ X)) ≡ Ok (record { header = h; line = line + 1; rest = words_from (line + 1 + 1) [] X })
closing h l line X =
    ap (reading h None l) (closing_words line X)
    ∙ upscope_read h l line (last_words (line + 1) (words_from (line + 1 + 1) [] X))
    ∙ last_read h line (line + 1) (words_from (line + 1 + 1) [] X)

-- what is read of the header in front of this
record HeaderRead (targets luns : ℕ) (X : List ℕ) : Type 0 where
  line : ℕ
  line' : ℕ
  is_read : reading blank None 1 (words_from 1 [] (codes "$version onfiseq $end\n$timescale 1 ns $end\n$scope module channel $end\n" ++ (declared_text (signals_of targets luns) ++ (codes "$upscope $end\n$enddefinitions $end\n" ++ X))))
      ≡ Ok (record { header = so_far (signals_of targets luns) (length (signals_of targets luns)); line = line; rest = words_from line' [] X })

header_read : (targets luns : ℕ) (X : List ℕ) → InOrder targets luns → HeaderRead targets luns X
header_read targets luns X o =
    let ss = signals_of targets luns in
    let end' = codes "$upscope $end\n$enddefinitions $end\n" ++ X in
    let all = declares_all ss [] 0 33 refl o.ordered 3 4 end' in
    let count : 0 + length ss ≡ length ss = omega arith in
    record {
      line = all.line' + 1;
      line' = all.line' + 1 + 1;
      is_read =
          opening (declared_text ss ++ end')
          ∙ all.is_read
          ∙ closing (so_far ss (0 + length ss)) all.l' all.line' X
          ∙ ap (λ (n : ℕ). Ok (record { header = so_far ss n; line = all.line' + 1; rest = words_from (all.line' + 1 + 1) [] X })) count;
    }

-- ---- 4. the whole dump

five : (a b c d e m : List ℕ) → (a ++ (b ++ (c ++ (d ++ e)))) ++ m ≡ a ++ (b ++ (c ++ (d ++ (e ++ m))))
five a b c d e m =
    append_assoc a (b ++ (c ++ (d ++ e))) m
    ∙ ap (λ (t : List ℕ). a ++ t) (append_assoc b (c ++ (d ++ e)) m
    ∙ ap (λ (t : List ℕ). b ++ t) (append_assoc c (d ++ e) m ∙ ap (λ (t : List ℕ). c ++ t) (append_assoc d e m)))

-- the frames, behind the header
abbrev all_frames : Parts → ℕ → List Item → List ℕ
all_frames g targets items = frames g targets begun items ++ last_frame g targets (after_all g targets begun items)

-- the body: the time, the settings and the frames
abbrev body : Parts → ℕ → List Item → List ℕ
body g targets items = codes "#0\n" ++ (codes "$dumpvars\n" ++ (settings 33 (levels g targets [] 0 idle) ++ (codes "$end\n" ++ all_frames g targets items)))

dump_text : (g : Parts) (targets : ℕ) (items : List Item) →
    dump g targets items ≡ codes "$version onfiseq $end\n$timescale 1 ns $end\n$scope module channel $end\n" ++ (declared_text (signals_of targets g.luns) ++ (codes "$upscope $end\n$enddefinitions $end\n" ++ body g targets items))
dump_text g targets items =
    let first = codes "$version onfiseq $end\n$timescale 1 ns $end\n$scope module channel $end\n" in
    let middle = codes "$upscope $end\n$enddefinitions $end\n#0\n$dumpvars\n" in
    let values = settings 33 (levels g targets [] 0 idle) in
    let model = model_lines (45 + targets) targets g.luns in
    five first (bus_lines targets) model middle (values ++ codes "$end\n") (all_frames g targets items)
    ∙ ap (λ (t : List ℕ). first ++ (bus_lines targets ++ (model ++ (middle ++ t)))) (append_assoc values (codes "$end\n") (all_frames g targets items))
    ∙ ap (λ (t : List ℕ). first ++ t) (
    sym (append_assoc (bus_lines targets) model (middle ++ (values ++ (codes "$end\n" ++ all_frames g targets items))))
    ∙ ap (λ (t : List ℕ). t ++ (middle ++ (values ++ (codes "$end\n" ++ all_frames g targets items)))) (signals_text targets g.luns))

body_says : (g : Parts) (targets : ℕ) (items : List Item) (widths : Widths) → have_bits widths 33 (line_count targets g.luns) ≡ true → 10 * length items < 10 ^ 18 →
    Says widths 0 (10 * (0 + length items)) (body g targets items) (events_of g targets items)
body_says g targets items widths have small =
    let limit = 10 * (0 + length items) in
    let values = levels g targets [] 0 idle in
    let told = events_from g targets begun items ++ last_events g targets (after_all g targets begun items) in
    let wide = subst (λ (n : ℕ). have_bits widths 33 n ≡ true) (sym (length_levels g targets [] 0 idle)) have in
    says_both widths 0 0 limit (codes "#0\n") (codes "$dumpvars\n" ++ (settings 33 values ++ (codes "$end\n" ++ all_frames g targets items))) (Time 0 ∷ []) (setting_events 33 values ++ told) (says_zero widths) (
    says_both widths 0 0 limit (codes "$dumpvars\n") (settings 33 values ++ (codes "$end\n" ++ all_frames g targets items)) [] (setting_events 33 values ++ told) (says_mark widths 0 36 (codes "dumpvars") refl (λ time. refl)) (
    says_both widths 0 0 limit (settings 33 values) (codes "$end\n" ++ all_frames g targets items) (setting_events 33 values) told (says_settings widths 0 values 33 (omega arith) (bits_levels g targets [] 0 idle) wide) (
    says_both widths 0 0 limit (codes "$end\n") (all_frames g targets items) [] told (says_mark widths 0 36 (codes "end") refl (λ time. refl))
    (of_frames g targets widths have items begun (omega (arith, small))))))

pub drawn : (g : Parts) (targets : ℕ) (items : List Item) → 1 ≤ targets → targets ≤ 4 → 1 ≤ g.luns → g.luns ≤ 4 → 10 * length items < 10 ^ 18 →
    Tells (dump g targets items) (signals_of targets g.luns) (events_of g targets items)
drawn g targets items some few some_luns few_luns small =
    let order = all_in_order targets g.luns some few some_luns few_luns in
    let count = length (signals_of targets g.luns) in
    let whole = header_read targets g.luns (body g targets items) order in
    let widths = bits_from 33 count in
    let have = subst (λ (n : ℕ). have_bits widths 33 n ≡ true) order.count (have_within count 33 count (omega arith) (omega arith)) in
    let heard = body_says g targets items widths have small 0 whole.line whole.line' [] (omega arith) in
    record {
      read = record { header = so_far (signals_of targets g.luns) count; line = whole.line; rest = words_from whole.line' [] (body g targets items) };
      is_read = ap header (dump_text g targets items) ∙ whole.is_read;
      declared = refl;
      told =
          ap (λ (t : List ℕ). told_from widths beginning whole.line (words_from whole.line' [] t)) (sym (append-nil (body g targets items)))
          ∙ heard.told
          ∙ append-nil (map Ok (events_of g targets items));
    }
