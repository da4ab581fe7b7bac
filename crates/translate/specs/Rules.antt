-- The rules of the translation, as the words that short lists of messages give (M2-104 D.3; RP-015; M1-100 2.2.1; M2-115; document 02, 2026-02).
use Rattle.std.specs.Prelude.{◌≡◌, Bool, false, ◌&&◌, ◌||◌, List, [], ◌∷◌, ◌++◌, map, ℕ, ◌+◌, ◌*◌, ◌^◌, ◌<◌, ◌≤◌, ltb, leb, eqb}
use Rattle.ump.specs.Choice.{when◌then◌else◌}
use Rattle.ump.specs.Outcome.{given}
use Rattle.ump.specs.Packet.{packet_value}
use Rattle.ump.specs.Word.{channel_of, word_of}
use Rattle.scale.specs.Scale.{widened, zero_extended}
use Rattle.translate_state.specs.declared.Midi1ToMidi2Group.{Midi1ToMidi2Group}
use Rattle.translate_state.specs.State.{state_on}
use Rattle.translate.specs.Translate.{first_word, translation_of, record_after, flush_reply, flushed_record}
use Rattle.translate.specs.Lists.{translate_words, translator_after_all, words_from, control}

-- a Program Change
abbrev pub program_change : ℕ → ℕ → ℕ → ℕ
program_change g c p = word_of g 0xC c p 0

-- the record after a list of messages
abbrev pub record_after_all : Midi1ToMidi2Group → List ℕ → Midi1ToMidi2Group
record_after_all r ws = translator_after_all r (map translate_words ws)

-- a message gives these two words, and the record stays
abbrev pub PassesAs : Midi1ToMidi2Group → ℕ → ℕ → ℕ → Type 0
PassesAs r w a b = (translation_of r w ≡ given (a ∷ b ∷ [])) × (record_after r w ≡ r)

-- Bank Select, Data Entry and parameter numbers: 0, 32, 6, 38, 98 to 101
abbrev pub held_controller : ℕ → Bool
held_controller n = eqb n 0 || (eqb n 32 || (eqb n 6 || (eqb n 38 || (leb 98 n && leb n 101))))

-- a Control Change of MIDI 2.0
abbrev pub control_words : ℕ → ℕ → ℕ → ℕ → List ℕ
control_words g c n v = first_word g 0xB c n 0 ∷ widened 7 32 v ∷ []

-- a Registered Controller, bank m and index l, for a value of 14 bits: index 0 to 31 zero extended, the others widened (M2-115 4.1)
abbrev pub registered_words : ℕ → ℕ → ℕ → ℕ → ℕ → List ℕ
registered_words c m l g v = first_word g 0x2 c m l ∷ (when ltb l 32 then zero_extended 14 32 v else widened 14 32 v) ∷ []

-- an Assignable Controller, always widened
abbrev pub assignable_words : ℕ → ℕ → ℕ → ℕ → ℕ → List ℕ
assignable_words c m l g v = first_word g 0x3 c m l ∷ widened 14 32 v ∷ []

-- the null number, 7F 7F
abbrev pub NullNumber : ℕ → ℕ → Type 0
NullNumber m l = (m ≡ 0x7F) × (l ≡ 0x7F)

-- the number of the MPE Configuration Message, RPN 0/6
abbrev pub McmNumber : ℕ → ℕ → Type 0
McmNumber m l = (m ≡ 0) × (l ≡ 6)

-- messages of group g and channel c that pass on, and hold nothing
pub record PassingRules (r : Midi1ToMidi2Group) (g c : ℕ) : Type 0 where
  -- Note On with velocity 0 is Note Off with velocity 0x8000 (D.3.1)
  pub note_on_0 : (n : ℕ) → n < 128 → PassesAs r (word_of g 0x9 c n 0) (first_word g 0x8 c n 0) 0x80000000
  pub note_on : (n v : ℕ) → n < 128 → 0 < v → v < 128 → PassesAs r (word_of g 0x9 c n v) (first_word g 0x9 c n 0) (widened 7 16 v * 2 ^ 16)
  pub note_off : (n v : ℕ) → n < 128 → v < 128 → PassesAs r (word_of g 0x8 c n v) (first_word g 0x8 c n 0) (widened 7 16 v * 2 ^ 16)
  -- pressure and pitch bend, of which the second byte is the upper half, are widened to 32 bits
  pub poly_pressure : (n v : ℕ) → n < 128 → v < 128 → PassesAs r (word_of g 0xA c n v) (first_word g 0xA c n 0) (widened 7 32 v)
  pub channel_pressure : (v : ℕ) → v < 128 → PassesAs r (word_of g 0xD c v 0) (first_word g 0xD c 0 0) (widened 7 32 v)
  pub pitch_bend_message : (l m : ℕ) → l < 128 → m < 128 → PassesAs r (word_of g 0xE c l m) (first_word g 0xE c 0 0) (widened 14 32 (m * 2 ^ 7 + l))
  -- every controller that is not held (D.3.3); 121 too, which does alter the record (RP-015)
  pub controllers : (n v : ℕ) → n < 128 → v < 128 → held_controller n ≡ false → translation_of r (control g c n v) ≡ given (control_words g c n v)
  pub controllers_hold_nothing : (n v : ℕ) → n < 128 → v < 128 → held_controller n ≡ false → (n ≡ 121 → ⊥)
      → record_after r (control g c n v) ≡ r

-- a program change carries the bank, if one was given since the last (D.3.4)
pub record BankRules (r : Midi1ToMidi2Group) (g c : ℕ) : Type 0 where
  pub bank : (m l p : ℕ) → m < 128 → l < 128 → p < 128
      → words_from r (control g c 0 m ∷ control g c 32 l ∷ program_change g c p ∷ []) ≡ first_word g 0xC c 0 1 ∷ (p * 2 ^ 24 + (m * 2 ^ 8 + l)) ∷ []
  -- an MSB sets the held LSB to 0
  pub bank_msb : (m p : ℕ) → m < 128 → p < 128
      → words_from r (control g c 0 m ∷ program_change g c p ∷ []) ≡ first_word g 0xC c 0 1 ∷ (p * 2 ^ 24 + m * 2 ^ 8) ∷ []
  -- 121 leaves a held bank (D.3.4; RP-015)
  pub bank_kept_by_121 : (m l v p : ℕ) → m < 128 → l < 128 → v < 128 → p < 128
      → words_from r (control g c 0 m ∷ control g c 32 l ∷ control g c 121 v ∷ program_change g c p ∷ [])
      ≡ control_words g c 121 v ++ (first_word g 0xC c 0 1 ∷ (p * 2 ^ 24 + (m * 2 ^ 8 + l)) ∷ [])
  -- an LSB alone has MSB 0
  pub bank_lsb : (q l p : ℕ) → q < 128 → l < 128 → p < 128
      → words_from (record_after r (program_change g c q)) (control g c 32 l ∷ program_change g c p ∷ [])
      ≡ first_word g 0xC c 0 1 ∷ (p * 2 ^ 24 + l) ∷ []
  -- without one Bank Valid is 0, and so is the bank
  pub no_bank : (q p : ℕ) → q < 128 → p < 128
      → translation_of (record_after r (program_change g c q)) (program_change g c p) ≡ given (first_word g 0xC c 0 0 ∷ p * 2 ^ 24 ∷ [])

-- a parameter number is selected by two messages, and `entry` is what its entries give, by group and value of 14 bits (D.3.3)
pub record EntryRules (r : Midi1ToMidi2Group) (g c first second : ℕ) (entry : ℕ → ℕ → List ℕ) : Type 0 where
  -- 6 and 38 give one message, each further 38 one more, and 38 without 6 none
  pub completed_by_38 : (x y : ℕ) → x < 128 → y < 128
      → words_from (record_after r first) (second ∷ control g c 6 x ∷ control g c 38 y ∷ []) ≡ entry g (x * 2 ^ 7 + y)
  pub again_by_38 : (x y z : ℕ) → x < 128 → y < 128 → z < 128
      → words_from (record_after r first) (second ∷ control g c 6 x ∷ control g c 38 y ∷ control g c 38 z ∷ [])
      ≡ entry g (x * 2 ^ 7 + y) ++ entry g (x * 2 ^ 7 + z)
  pub no_value : (y : ℕ) → y < 128 → words_from (record_after r first) (second ∷ control g c 38 y ∷ []) ≡ []
  -- what a 38 completed is not sent again at the next 6, at 98 to 101, or by `flush`
  pub completed_then_6 : (x y z w : ℕ) → x < 128 → y < 128 → z < 128 → w < 128
      → words_from (record_after r first) (second ∷ control g c 6 x ∷ control g c 38 y ∷ control g c 6 z ∷ control g c 38 w ∷ [])
      ≡ entry g (x * 2 ^ 7 + y) ++ entry g (z * 2 ^ 7 + w)
  pub completed_then_number : (x y n v : ℕ) → x < 128 → y < 128 → 98 ≤ n → n ≤ 101 → v < 128
      → words_from (record_after r first) (second ∷ control g c 6 x ∷ control g c 38 y ∷ control g c n v ∷ []) ≡ entry g (x * 2 ^ 7 + y)
  pub completed_then_flushed : (h x y : ℕ) → h < 16 → x < 128 → y < 128
      → flush_reply (record_after_all r (first ∷ second ∷ control g c 6 x ∷ control g c 38 y ∷ [])) h c ≡ given []
  -- a 6 that no 38 follows has LSB 0: it is sent at the next 6, at 98 to 101, or by `flush`, once
  pub ended_by_6 : (x z w : ℕ) → x < 128 → z < 128 → w < 128
      → words_from (record_after r first) (second ∷ control g c 6 x ∷ control g c 6 z ∷ control g c 38 w ∷ [])
      ≡ entry g (x * 2 ^ 7) ++ entry g (z * 2 ^ 7 + w)
  pub ended_by_number : (x n v : ℕ) → x < 128 → 98 ≤ n → n ≤ 101 → v < 128
      → words_from (record_after r first) (second ∷ control g c 6 x ∷ control g c n v ∷ []) ≡ entry g (x * 2 ^ 7)
  pub flushed : (h x : ℕ) → h < 16 → x < 128
      → flush_reply (record_after_all r (first ∷ second ∷ control g c 6 x ∷ [])) h c ≡ given (entry h (x * 2 ^ 7))
  pub flushed_once : (h x : ℕ) → h < 16 → x < 128
      → flush_reply (flushed_record (record_after_all r (first ∷ second ∷ control g c 6 x ∷ [])) h c) h c ≡ given []
  -- the MSB is held still: a 38 sends it again with its LSB (D.3.3)
  pub flushed_then_38 : (h x y : ℕ) → h < 16 → x < 128 → y < 128
      → words_from (flushed_record (record_after_all r (first ∷ second ∷ control g c 6 x ∷ [])) h c) (control g c 38 y ∷ []) ≡ entry g (x * 2 ^ 7 + y)
  -- 121 passes on; what is pending is still sent, with LSB 0 even at 38, and then the number is null (RP-015)
  pub reset_then_38 : (x v y z w : ℕ) → x < 128 → v < 128 → y < 128 → z < 128 → w < 128
      → words_from (record_after r first)
      (second ∷ control g c 6 x ∷ control g c 121 v ∷ control g c 38 y ∷ control g c 6 z ∷ control g c 38 w ∷ [])
      ≡ control_words g c 121 v ++ entry g (x * 2 ^ 7)
  pub reset_then_6 : (x v z w : ℕ) → x < 128 → v < 128 → z < 128 → w < 128
      → words_from (record_after r first) (second ∷ control g c 6 x ∷ control g c 121 v ∷ control g c 6 z ∷ control g c 38 w ∷ [])
      ≡ control_words g c 121 v ++ entry g (x * 2 ^ 7)
  pub reset_then_number : (x v n u : ℕ) → x < 128 → v < 128 → 98 ≤ n → n ≤ 101 → u < 128
      → words_from (record_after r first) (second ∷ control g c 6 x ∷ control g c 121 v ∷ control g c n u ∷ [])
      ≡ control_words g c 121 v ++ entry g (x * 2 ^ 7)
  pub reset_then_flushed : (h x v : ℕ) → h < 16 → x < 128 → v < 128
      → flush_reply (record_after_all r (first ∷ second ∷ control g c 6 x ∷ control g c 121 v ∷ [])) h c ≡ given (entry h (x * 2 ^ 7))
  -- the bank and the entry do not touch each other
  pub beside_bank : (b x a p y : ℕ) → b < 128 → x < 128 → a < 128 → p < 128 → y < 128
      → words_from (record_after r first)
      (control g c 0 b ∷ second ∷ control g c 6 x ∷ control g c 32 a ∷ program_change g c p ∷ control g c 38 y ∷ [])
      ≡ (first_word g 0xC c 0 1 ∷ (p * 2 ^ 24 + (b * 2 ^ 8 + a)) ∷ []) ++ entry g (x * 2 ^ 7 + y)

-- RPN 0/6 is selected by two messages. It has no LSB: each 6 is sent at once, and nothing is pending (M1-100 2.2.1).
pub record McmRules (r : Midi1ToMidi2Group) (g c first second : ℕ) : Type 0 where
  pub sent_at_once : (x z : ℕ) → x < 128 → z < 128
      → words_from (record_after r first) (second ∷ control g c 6 x ∷ control g c 6 z ∷ [])
      ≡ registered_words c 0 6 g (x * 2 ^ 7) ++ registered_words c 0 6 g (z * 2 ^ 7)
  -- the MSB is held still: a 38 sends it again with its LSB (D.3.3)
  pub sent_again_by_38 : (x y : ℕ) → x < 128 → y < 128
      → words_from (record_after r first) (second ∷ control g c 6 x ∷ control g c 38 y ∷ [])
      ≡ registered_words c 0 6 g (x * 2 ^ 7) ++ registered_words c 0 6 g (x * 2 ^ 7 + y)
  pub not_pending : (h x : ℕ) → h < 16 → x < 128
      → flush_reply (record_after_all r (first ∷ second ∷ control g c 6 x ∷ [])) h c ≡ given []

-- both numbers are null, 7F 7F: half a number joins 7F (RP-015)
pub record NullRules (r : Midi1ToMidi2Group) (g c : ℕ) : Type 0 where
  pub then_101 : (m x y : ℕ) → m < 128 → x < 128 → y < 128 → (m ≡ 0x7F → ⊥)
      → words_from (record_after r (control g c 101 m)) (control g c 6 x ∷ control g c 38 y ∷ []) ≡ registered_words c m 0x7F g (x * 2 ^ 7 + y)
  pub then_100 : (l x y : ℕ) → l < 128 → x < 128 → y < 128 → (l ≡ 0x7F → ⊥)
      → words_from (record_after r (control g c 100 l)) (control g c 6 x ∷ control g c 38 y ∷ []) ≡ registered_words c 0x7F l g (x * 2 ^ 7 + y)
  pub then_99 : (m x y : ℕ) → m < 128 → x < 128 → y < 128 → (m ≡ 0x7F → ⊥)
      → words_from (record_after r (control g c 99 m)) (control g c 6 x ∷ control g c 38 y ∷ []) ≡ assignable_words c m 0x7F g (x * 2 ^ 7 + y)
  pub then_98 : (l x y : ℕ) → l < 128 → x < 128 → y < 128 → (l ≡ 0x7F → ⊥)
      → words_from (record_after r (control g c 98 l)) (control g c 6 x ∷ control g c 38 y ∷ []) ≡ assignable_words c 0x7F l g (x * 2 ^ 7 + y)

-- of a new record: entries without a number, or with half of one, give nothing (D.3.3)
pub record NoNumberRules (new : Midi1ToMidi2Group) : Type 0 where
  pub no_number : (g c x y : ℕ) → g < 16 → c < 16 → x < 128 → y < 128 → words_from new (control g c 6 x ∷ control g c 38 y ∷ []) ≡ []
  pub half_number : (g c n v x y : ℕ) → g < 16 → c < 16 → 98 ≤ n → n ≤ 101 → v < 128 → x < 128 → y < 128
      → words_from new (control g c n v ∷ control g c 6 x ∷ control g c 38 y ∷ []) ≡ []

-- from a record that is `Formed`, whatever it holds
pub record TranslatedByRules (r : Midi1ToMidi2Group) : Type 0 where
  pub passing : (g c : ℕ) → g < 16 → c < 16 → PassingRules r g c
  pub banks : (g c : ℕ) → g < 16 → c < 16 → BankRules r g c
  -- a registered number, its halves in either order, and an assignable one
  pub registered : (g c m l : ℕ) → g < 16 → c < 16 → m < 128 → l < 128 → (NullNumber m l → ⊥) → (McmNumber m l → ⊥)
      → EntryRules r g c (control g c 101 m) (control g c 100 l) (registered_words c m l)
  pub registered_lsb_first : (g c m l : ℕ) → g < 16 → c < 16 → m < 128 → l < 128 → (NullNumber m l → ⊥) → (McmNumber m l → ⊥)
      → EntryRules r g c (control g c 100 l) (control g c 101 m) (registered_words c m l)
  pub assignable : (g c m l : ℕ) → g < 16 → c < 16 → m < 128 → l < 128 → (NullNumber m l → ⊥)
      → EntryRules r g c (control g c 99 m) (control g c 98 l) (assignable_words c m l)
  pub assignable_lsb_first : (g c m l : ℕ) → g < 16 → c < 16 → m < 128 → l < 128 → (NullNumber m l → ⊥)
      → EntryRules r g c (control g c 98 l) (control g c 99 m) (assignable_words c m l)
  -- the null number gives nothing
  pub registered_null : (g c : ℕ) → g < 16 → c < 16 → EntryRules r g c (control g c 101 0x7F) (control g c 100 0x7F) (λ h v. [])
  pub assignable_null : (g c : ℕ) → g < 16 → c < 16 → EntryRules r g c (control g c 99 0x7F) (control g c 98 0x7F) (λ h v. [])
  -- RPN 0/6, its halves in either order
  pub mcm : (g c : ℕ) → g < 16 → c < 16 → McmRules r g c (control g c 101 0) (control g c 100 6)
  pub mcm_lsb_first : (g c : ℕ) → g < 16 → c < 16 → McmRules r g c (control g c 100 6) (control g c 101 0)
  -- where nothing is pending, as after `flush`, 121 makes the number null at once (RP-015)
  pub reset_null : (g h c v x y : ℕ) → g < 16 → h < 16 → c < 16 → v < 128 → x < 128 → y < 128
      → words_from (flushed_record r h c) (control g c 121 v ∷ control g c 6 x ∷ control g c 38 y ∷ []) ≡ control_words g c 121 v
  pub reset_then_half : (g h c v n u : ℕ) → g < 16 → h < 16 → c < 16 → v < 128 → 98 ≤ n → n ≤ 101 → u < 128
      → words_from (flushed_record r h c) (control g c 121 v ∷ control g c n u ∷ []) ≡ control_words g c 121 v
  -- both numbers are 7F 7F then, and where a value was pending once it is sent: at 98 to 101, at 38, at 6, or by `flush`
  pub reset_numbers : (g c v : ℕ) → g < 16 → c < 16 → v < 128 → NullRules (record_after r (control g c 121 v)) g c
  pub reset_numbers_38 : (g c v y : ℕ) → g < 16 → c < 16 → v < 128 → y < 128
      → NullRules (record_after_all r (control g c 121 v ∷ control g c 38 y ∷ [])) g c
  pub reset_numbers_6 : (g c v x : ℕ) → g < 16 → c < 16 → v < 128 → x < 128
      → NullRules (record_after_all r (control g c 121 v ∷ control g c 6 x ∷ [])) g c
  pub reset_numbers_flushed : (g h c v : ℕ) → g < 16 → h < 16 → c < 16 → v < 128
      → NullRules (flushed_record (record_after r (control g c 121 v)) h c) g c
  -- each of 98 to 101 ends the held MSB: a 38 without a new 6 gives nothing (D.3.3)
  pub number_ends_msb : (g c n v y : ℕ) → g < 16 → c < 16 → 98 ≤ n → n ≤ 101 → v < 128 → y < 128
      → words_from (record_after r (control g c n v)) (control g c 38 y ∷ []) ≡ []
  -- a number of one kind leaves that of the other, so that one half alters it (D.3.3)
  pub registered_kept : (g c m l a b k x y : ℕ) → g < 16 → c < 16 → m < 128 → l < 128 → a < 128 → b < 128 → k < 128 → x < 128 → y < 128
      → (NullNumber m k → ⊥) → (McmNumber m k → ⊥)
      → words_from (record_after_all r (control g c 101 m ∷ control g c 100 l ∷ control g c 99 a ∷ control g c 98 b ∷ []))
      (control g c 100 k ∷ control g c 6 x ∷ control g c 38 y ∷ [])
      ≡ registered_words c m k g (x * 2 ^ 7 + y)
  pub assignable_kept : (g c a b m l k x y : ℕ) → g < 16 → c < 16 → a < 128 → b < 128 → m < 128 → l < 128 → k < 128 → x < 128 → y < 128
      → (NullNumber a k → ⊥)
      → words_from (record_after_all r (control g c 99 a ∷ control g c 98 b ∷ control g c 101 m ∷ control g c 100 l ∷ []))
      (control g c 98 k ∷ control g c 6 x ∷ control g c 38 y ∷ [])
      ≡ assignable_words c a k g (x * 2 ^ 7 + y)
  -- what other channels hold stays
  pub other_channels : (w d : ℕ) → (d ≡ channel_of w → ⊥) → state_on (record_after r w) d ≡ state_on r d
  pub other_channels_flushed : (h c d : ℕ) → (d ≡ packet_value c → ⊥) → state_on (flushed_record r h c) d ≡ state_on r d
  -- what is held does not depend on the group
  pub any_group : (g h o c a b : ℕ) → g < 16 → h < 16 → o < 16 → c < 16 → a < 128 → b < 128
      → record_after r (word_of g o c a b) ≡ record_after r (word_of h o c a b)
