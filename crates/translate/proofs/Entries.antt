-- The entries of parameter numbers: what lists of messages on one channel give.
-- Assumes nothing.
use mathlib.Core.Path.{◌≡◌, refl, sym, ap, ◌∙◌}
use mathlib.Core.Bool.{Bool, true, false, true≢false}
use mathlib.Core.List.{List, [], ◌∷◌, ◌++◌, map}
use Prim.Native.Nat.{ℕ, ◌+◌, ◌-◌, ◌*◌, ◌/◌, ◌^◌, ◌<◌, ◌≤◌}
use native.Mathlib.Nat.{add-zero, mod-eq_of_lt}
use native.Mathlib.Omega.{arith}
use lib.Dec.{eqb}
use borrow.Author.Tests.{eqb-true, ne_eqb, le-ltb}
use lib.ListN.{get_or-replicate}
use Rattle.ump.specs.Choice.{when◌then◌else◌}
use Rattle.ump.specs.Outcome.{given}
use Rattle.ump.proofs.Cases.{by-test, of-both}
use Rattle.translate_state.specs.declared.ChannelState.{ChannelState}
use Rattle.translate_state.specs.declared.Midi1ToMidi2Group.{Midi1ToMidi2Group}
use Rattle.translate_state.specs.State.{held, channel_state, empty_state, new_record, pending_in, null_after_in, pending_sent, number_selected, mcm_selected, entry_held, completed, controllers_reset, state_on, flags_allowed}
use Rattle.std.specs.Prelude.{Option, Some, None}
use Rattle.translate.specs.declared.Stepped.{Stepped}
use Rattle.translate.specs.Translate.{word_pair, words_given, first_word, controller_data, controller_numbered, controller, pending_words, channel_step, entered_after, lsb_entered, passed_on, control_changed, message_translated, record_after, flushed_record}
use Rattle.translate.specs.Lists.{translate_words, flush, translator_after_all, words_from, control, Formed}
use Rattle.translate.specs.Rules.{record_after_all, control_words, registered_words, assignable_words, NullNumber, McmNumber, EntryRules, McmRules, NullRules}
use Rattle.translate_state.proofs.Flags.{flags-lt}
use Rattle.translate_state.proofs.Kept.{sent-kept, sent-kind}
use Rattle.translate.proofs.Always.{new-formed, on-allowed, after-formed, always-formed}
use Rattle.translate.proofs.Each.{Each, nothing, ◌and◌, at}
use Rattle.translate.proofs.Passing.{some, back, with-bank, held-0, held-32}
use Rattle.translate.proofs.Messages.{fits-B, state-of, Gives, ended, message, said, silent, said-last, fits-C, flush-answer, flush-state}

-- the kind of parameter that flags select, with nothing pending
data Kind : Type 0 where
  none : Kind
  rpn : Kind
  nrpn : Kind

abbrev code : Kind → ℕ
code none = 0
code rpn = 1
code nrpn = 2

-- the same with an entry pending, and with a reset noted besides
abbrev code-pending : Kind → ℕ
code-pending none = 4
code-pending rpn = 5
code-pending nrpn = 6

abbrev code-reset : Kind → ℕ
code-reset none = 12
code-reset rpn = 13
code-reset nrpn = 14

-- flags that are a kind alone
record KindOf (f : ℕ) : Type 0 where
  kind : Kind
  is : f ≡ code kind

kinds : Each (λ f. flags_allowed f ≡ true → KindOf f) 4
kinds =
    nothing
    and (λ a. record { kind = none; is = refl })
    and (λ a. record { kind = rpn; is = refl })
    and (λ a. record { kind = nrpn; is = refl })
    and (λ a. absurd (true≢false (sym a)))

entered : (x : Option (List ℕ)) (g c : ℕ) (s : ChannelState) → mcm_selected s ≡ false → entered_after x g c s ≡ channel_step s x
unfolding entered_after
entered (Some a) g c s e = refl
entered None g c s e = rw e

-- the numbers of a channel: registered, and non-registered
module _ (rm rl nm nl : ℕ) where
  abbrev on : ℕ → ℕ → ℕ → ℕ → ChannelState
  on d bm bl f = channel_state rm rl nm nl d bm bl f

  abbrev sent : Kind → ℕ → ℕ → ℕ → Option (List ℕ)
  sent none g c v = None
  sent rpn g c v = controller_numbered g c 0x2 rm rl v
  sent nrpn g c v = controller_numbered g c 0x3 nm nl v

  abbrev mcm_of : Kind → Bool
  mcm_of none = false
  mcm_of rpn = when eqb rm (held 0) then eqb rl (held 6) else false
  mcm_of nrpn = false

null-is-no-mcm : (k : Kind) → mcm_of 128 128 128 128 k ≡ false
null-is-no-mcm none = refl
null-is-no-mcm rpn = refl
null-is-no-mcm nrpn = refl

null-sends-none : (k : Kind) (g c v : ℕ) → sent 128 128 128 128 k g c v ≡ None
unfolding controller_numbered
null-sends-none none g c v = refl
null-sends-none rpn g c v = refl
null-sends-none nrpn g c v = refl

-- both numbers null
abbrev nulled : ℕ → ℕ → ℕ → ℕ → ChannelState
nulled d bm bl f = on 128 128 128 128 d bm bl f

module _ (rm rl nm nl bm bl : ℕ) where
  abbrev at-flags : ℕ → ℕ → ChannelState
  at-flags d f = on rm rl nm nl d bm bl f

  abbrev words_of : Kind → ℕ → ℕ → ℕ → Option (List ℕ)
  words_of = sent rm rl nm nl

  mcm-of : (k : Kind) (d : ℕ) → mcm_selected (at-flags d (code-pending k)) ≡ mcm_of rm rl nm nl k
  unfolding mcm_selected
  mcm-of none d = refl
  mcm-of rpn d = refl
  mcm-of nrpn d = refl

  module _ (g c : ℕ) where
    -- an entry that is pending, a reset noted or not
    pending-words : (k : Kind) (x : ℕ) → pending_words g c (at-flags (x + 1) (code-pending k)) ≡ words_of k g c (x * 2 ^ 7)
    unfolding pending_words controller
    pending-words none x = rw (some x)
    pending-words rpn x = rw (some x, back x, add-zero)
    pending-words nrpn x = rw (some x, back x, add-zero)

    reset-words : (k : Kind) (x : ℕ) → pending_words g c (at-flags (x + 1) (code-reset k)) ≡ words_of k g c (x * 2 ^ 7)
    unfolding pending_words controller
    reset-words none x = rw (some x)
    reset-words rpn x = rw (some x, back x, add-zero)
    reset-words nrpn x = rw (some x, back x, add-zero)

    none-pending : (k : Kind) (d : ℕ) → pending_words g c (at-flags d (code k)) ≡ None
    unfolding pending_words
    none-pending none d = refl
    none-pending rpn d = refl
    none-pending nrpn d = refl

  pending-sent : (k : Kind) (d : ℕ) → pending_sent (at-flags d (code-pending k)) ≡ at-flags d (code k)
  unfolding pending_sent
  pending-sent none d = refl
  pending-sent rpn d = refl
  pending-sent nrpn d = refl

  reset-sent : (k : Kind) (d : ℕ) → pending_sent (at-flags d (code-reset k)) ≡ nulled d bm bl (code k)
  unfolding pending_sent
  reset-sent none d = refl
  reset-sent rpn d = refl
  reset-sent nrpn d = refl

  none-sent : (k : Kind) (d : ℕ) → pending_sent (at-flags d (code k)) ≡ at-flags d (code k)
  unfolding pending_sent
  none-sent none d = refl
  none-sent rpn d = refl
  none-sent nrpn d = refl

  entry-held : (k : Kind) (d x : ℕ) → x < 128 → entry_held (at-flags d (code k)) x ≡ at-flags (x + 1) (code-pending k)
  unfolding entry_held
  entry-held none d x h = rw (mod-eq_of_lt h)
  entry-held rpn d x h = rw (mod-eq_of_lt h)
  entry-held nrpn d x h = rw (mod-eq_of_lt h)

  module _ (g c : ℕ) where
    -- 6 with nothing pending, with an entry pending, and with a reset noted
    first-6 : (k : Kind) (d x : ℕ) → x < 128 → mcm_of rm rl nm nl k ≡ false
        → control_changed g c (at-flags d (code k)) 6 x ≡ channel_step (at-flags (x + 1) (code-pending k)) None
    unfolding control_changed
    first-6 k d x h m =
        rw (none-pending g c k d, none-sent k d, entry-held k d x h) (entered None g c _ (mcm-of k (x + 1) ∙ m))

    next-6 : (k : Kind) (x z : ℕ) → z < 128 → mcm_of rm rl nm nl k ≡ false
        → control_changed g c (at-flags (x + 1) (code-pending k)) 6 z ≡ channel_step (at-flags (z + 1) (code-pending k)) (words_of k g c (x * 2 ^ 7))
    unfolding control_changed
    next-6 k x z h m =
        rw (pending-words g c k x, pending-sent k (x + 1), entry-held k (x + 1) z h) (entered (words_of k g c (x * 2 ^ 7)) g c _ (mcm-of k (z + 1) ∙ m))

    -- 38 with an entry pending, after it, with no 6 before it, and with a reset noted
    first-38 : (k : Kind) (x y : ℕ)
        → control_changed g c (at-flags (x + 1) (code-pending k)) 38 y ≡ channel_step (at-flags (x + 1) (code k)) (words_of k g c (x * 2 ^ 7 + y))
    unfolding control_changed lsb_entered completed controller
    first-38 none x y = rw (some x)
    first-38 rpn x y = rw (some x, back x)
    first-38 nrpn x y = rw (some x, back x)

    next-38 : (k : Kind) (x y : ℕ)
        → control_changed g c (at-flags (x + 1) (code k)) 38 y ≡ channel_step (at-flags (x + 1) (code k)) (words_of k g c (x * 2 ^ 7 + y))
    unfolding control_changed lsb_entered completed controller
    next-38 none x y = rw (some x)
    next-38 rpn x y = rw (some x, back x)
    next-38 nrpn x y = rw (some x, back x)

    none-38 : (k : Kind) (y : ℕ) → control_changed g c (at-flags 0 (code k)) 38 y ≡ channel_step (at-flags 0 (code k)) None
    unfolding control_changed lsb_entered
    none-38 none y = refl
    none-38 rpn y = refl
    none-38 nrpn y = refl

    reset-38 : (k : Kind) (x y : ℕ)
        → control_changed g c (at-flags (x + 1) (code-reset k)) 38 y ≡ channel_step (nulled (x + 1) bm bl (code k)) (words_of k g c (x * 2 ^ 7))
    unfolding control_changed lsb_entered pending_sent pending_words controller
    reset-38 none x y = rw (some x)
    reset-38 rpn x y = rw (some x, back x, add-zero)
    reset-38 nrpn x y = rw (some x, back x, add-zero)

    -- 121
    reset-pending : (k : Kind) (d v : ℕ)
        → control_changed g c (at-flags d (code-pending k)) 121 v ≡ channel_step (at-flags d (code-reset k)) (passed_on g c 0xB 121 v)
    unfolding control_changed controllers_reset
    reset-pending none d v = refl
    reset-pending rpn d v = refl
    reset-pending nrpn d v = refl

    reset-at-once : (k : Kind) (d v : ℕ)
        → control_changed g c (at-flags d (code k)) 121 v ≡ channel_step (nulled d bm bl (code k)) (passed_on g c 0xB 121 v)
    unfolding control_changed controllers_reset
    reset-at-once none d v = refl
    reset-at-once rpn d v = refl
    reset-at-once nrpn d v = refl

-- 98 to 101
number : (g c : ℕ) (s : ChannelState) (n v : ℕ) → 98 ≤ n → n ≤ 101
    → control_changed g c s n v ≡ channel_step (number_selected (pending_sent s) n v) (pending_words g c s)
unfolding control_changed
number g c s n v l h =
    rw (
      ne_eqb n 0 (λ e. omega arith),
      ne_eqb n 6 (λ e. omega arith),
      ne_eqb n 32 (λ e. omega arith),
      ne_eqb n 38 (λ e. omega arith),
      ne_eqb n 121 (λ e. omega arith),
      le-ltb n 98 l,
      le-ltb 101 n h,
    )

-- with nothing pending
module _ (g c rm rl nm nl d bm bl v : ℕ) (k : Kind) where
  half-after : (n : ℕ) → 98 ≤ n → n ≤ 101 → (t : ChannelState) → number_selected (on rm rl nm nl d bm bl (code k)) n v ≡ t
      → control_changed g c (on rm rl nm nl d bm bl (code k)) n v ≡ channel_step t None
  half-after n l u t e =
      number g c _ n v l u ∙ rw (none-sent rm rl nm nl bm bl k d, none-pending rm rl nm nl bm bl g c k d, e)

-- 6 with a reset noted
reset-6 : (rm rl nm nl bm bl g c : ℕ) (k : Kind) (x z : ℕ) → z < 128
    → control_changed g c (on rm rl nm nl (x + 1) bm bl (code-reset k)) 6 z
    ≡ channel_step (nulled (z + 1) bm bl (code-pending k)) (sent rm rl nm nl k g c (x * 2 ^ 7))
unfolding control_changed
reset-6 rm rl nm nl bm bl g c k x z h =
    rw (reset-words rm rl nm nl bm bl g c k x, reset-sent rm rl nm nl bm bl k (x + 1), entry-held 128 128 128 128 bm bl k (x + 1) z h)
    (entered (sent rm rl nm nl k g c (x * 2 ^ 7)) g c _ (mcm-of 128 128 128 128 bm bl k (z + 1) ∙ null-is-no-mcm k))

all-formed : (r : Midi1ToMidi2Group) → Formed r → (ws : List ℕ) → Formed (record_after_all r ws)
all-formed r f ws = always-formed r f (map translate_words ws)

-- a number that gives nothing
module _ (g c : ℕ) (hg : g < 16) (hc : c < 16) (k : Kind) (rm rl nm nl bm bl : ℕ) (no-mcm : mcm_of rm rl nm nl k ≡ false)
    (Gives-none : (v : ℕ) → sent rm rl nm nl k g c v ≡ None)
  where
    silent-38 : (z w : ℕ) → w < 128 → Gives c (on rm rl nm nl (z + 1) bm bl (code-pending k)) (control g c 38 w ∷ []) [] (on rm rl nm nl (z + 1) bm bl (code k))
    silent-38 z w h =
        said-last g c hg hc 38 w (omega arith) h _ [] (first-38 rm rl nm nl bm bl g c k z w) (ap words_given (Gives-none (z * 2 ^ 7 + w))) (ended c _)

    silent-entry : (d z w : ℕ) → z < 128 → w < 128
        → Gives c (on rm rl nm nl d bm bl (code k)) (control g c 6 z ∷ control g c 38 w ∷ []) [] (on rm rl nm nl (z + 1) bm bl (code k))
    silent-entry d z w hz hw = silent g c hg hc 6 z (omega arith) hz (first-6 rm rl nm nl bm bl g c k d z hz no-mcm) (silent-38 z w hw)

-- the null number
module _ (g c : ℕ) (hg : g < 16) (hc : c < 16) (k : Kind) (bm bl : ℕ) where
  null-38 : (z w : ℕ) → w < 128 → Gives c (nulled (z + 1) bm bl (code-pending k)) (control g c 38 w ∷ []) [] (nulled (z + 1) bm bl (code k))
  null-38 = silent-38 g c hg hc k 128 128 128 128 bm bl (null-is-no-mcm k) (null-sends-none k g c)

  null-entry : (d z w : ℕ) → z < 128 → w < 128
      → Gives c (nulled d bm bl (code k)) (control g c 6 z ∷ control g c 38 w ∷ []) [] (nulled (z + 1) bm bl (code k))
  null-entry = silent-entry g c hg hc k 128 128 128 128 bm bl (null-is-no-mcm k) (null-sends-none k g c)

-- no number, and half of one, from a new record
module _ (g c x y : ℕ) (hg : g < 16) (hc : c < 16) (hx : x < 128) (hy : y < 128) where
  abbrev entry-6-38 : List ℕ
  entry-6-38 = control g c 6 x ∷ control g c 38 y ∷ []

  from-new : {ws : List ℕ} {t : ChannelState} → Gives c empty_state ws [] t → words_from new_record ws ≡ []
  from-new all = all.gives new_record new-formed (get_or-replicate 16 c empty_state empty_state hc)

  pub without-number : words_from new_record entry-6-38 ≡ []
  without-number = from-new (silent-entry g c hg hc none 0 0 0 0 0 0 refl (λ u. refl) 0 x y hx hy)

  module _ (v : ℕ) (hv : v < 128) where
    -- the other half is missing
    abbrev FromHalf : ℕ → Type 0
    FromHalf n = words_from new_record (control g c n v ∷ entry-6-38) ≡ []

    half_of : (n : ℕ) → n < 128 → (k : Kind) (rm rl nm nl : ℕ) → control_changed g c empty_state n v ≡ channel_step (on rm rl nm nl 0 0 0 (code k)) None
        → mcm_of rm rl nm nl k ≡ false → ((u : ℕ) → sent rm rl nm nl k g c u ≡ None) → FromHalf n
    half_of n hn k rm rl nm nl e no-mcm Gives-none =
        from-new (silent g c hg hc n v hn hv e (silent-entry g c hg hc k rm rl nm nl 0 0 no-mcm Gives-none 0 x y hx hy))

    halves : Each (λ n. FromHalf (98 + n)) 4
    unfolding control_changed number_selected pending_sent pending_words controller_numbered
    halves =
        nothing
        and half_of 98 (omega arith) nrpn 0 0 0 (v + 1) (rw (mod-eq_of_lt hv)) refl (λ u. refl)
        and half_of 99 (omega arith) nrpn 0 0 (v + 1) 0 (rw (mod-eq_of_lt hv)) refl (λ u. rw (some v))
        and half_of 100 (omega arith) rpn 0 (v + 1) 0 0 (rw (mod-eq_of_lt hv)) refl (λ u. refl)
        and half_of 101 (omega arith) rpn (v + 1) 0 0 0 (rw (mod-eq_of_lt hv)) (of-both (λ b. b ≡ false) (eqb (v + 1) 1) refl refl) (λ u. rw (some v))

    pub with-half : (n : ℕ) → 98 ≤ n → n ≤ 101 → FromHalf n
    with-half n l h =
        let e : 98 + (n - 98) ≡ n = omega arith in
        rw e at (at halves (n - 98) (omega arith))

-- a number that a second message completes, and its entries
module _ (g c : ℕ) (hg : g < 16) (hc : c < 16) (k : Kind) (a1 a2 a3 a4 rm rl nm nl n2 v2 : ℕ) (hn : n2 < 128) (hv : v2 < 128)
    (select : (d bm bl : ℕ) → control_changed g c (on a1 a2 a3 a4 d bm bl (code k)) n2 v2 ≡ channel_step (on rm rl nm nl 0 bm bl (code k)) None)
    (no-mcm : mcm_of rm rl nm nl k ≡ false)
    (entry : ℕ → ℕ → List ℕ)
    (read : (h v : ℕ) → words_given (sent rm rl nm nl k h c v) ≡ entry h v)
  where
    abbrev waiting : ℕ → ℕ → ℕ → ℕ → ChannelState
    waiting x bm bl f = on rm rl nm nl (x + 1) bm bl f

    hold : {ws out : List ℕ} {t : ChannelState} (bm bl x : ℕ) → x < 128 → Gives c (waiting x bm bl (code-pending k)) ws out t
        → Gives c (on a1 a2 a3 a4 0 bm bl (code k)) (control g c n2 v2 ∷ control g c 6 x ∷ ws) out t
    hold bm bl x h rest =
        silent g c hg hc n2 v2 hn hv (select 0 bm bl)
        (silent g c hg hc 6 x (omega arith) h (first-6 rm rl nm nl bm bl g c k 0 x h no-mcm) rest)

    read-pending : (bm bl h x : ℕ) → words_given (pending_words h c (waiting x bm bl (code-pending k))) ≡ entry h (x * 2 ^ 7)
    read-pending bm bl h x = ap words_given (pending-words rm rl nm nl bm bl h c k x) ∙ read h (x * 2 ^ 7)

    read-reset : (bm bl h x : ℕ) → words_given (pending_words h c (waiting x bm bl (code-reset k))) ≡ entry h (x * 2 ^ 7)
    read-reset bm bl h x = ap words_given (reset-words rm rl nm nl bm bl h c k x) ∙ read h (x * 2 ^ 7)

    -- 38 after 6
    complete : (bm bl x y : ℕ) → y < 128 → Gives c (waiting x bm bl (code-pending k)) (control g c 38 y ∷ []) (entry g (x * 2 ^ 7 + y)) (waiting x bm bl (code k))
    complete bm bl x y h =
        said-last g c hg hc 38 y (omega arith) h _ (entry g (x * 2 ^ 7 + y)) (first-38 rm rl nm nl bm bl g c k x y) (read g (x * 2 ^ 7 + y)) (ended c _)

    -- 38 once more
    again : (bm bl x y : ℕ) → y < 128 → Gives c (waiting x bm bl (code k)) (control g c 38 y ∷ []) (entry g (x * 2 ^ 7 + y)) (waiting x bm bl (code k))
    again bm bl x y h =
        said-last g c hg hc 38 y (omega arith) h _ (entry g (x * 2 ^ 7 + y)) (next-38 rm rl nm nl bm bl g c k x y) (read g (x * 2 ^ 7 + y)) (ended c _)

    -- 121 after 6
    reset-after : {ws out : List ℕ} {t : ChannelState} (bm bl x v : ℕ) → x < 128 → v < 128 → Gives c (waiting x bm bl (code-reset k)) ws out t
        → Gives c (on a1 a2 a3 a4 0 bm bl (code k)) (control g c n2 v2 ∷ control g c 6 x ∷ control g c 121 v ∷ ws) (control_words g c 121 v ++ out) t
    reset-after bm bl x v hx hv rest =
        hold bm bl x hx
        (said g c hg hc 121 v (omega arith) hv _ (control_words g c 121 v) (reset-pending rm rl nm nl bm bl g c k (x + 1) v) refl rest)

    module _ (r : Midi1ToMidi2Group) (f : Formed r) (first bm bl : ℕ) (start : state_on (record_after r first) c ≡ on a1 a2 a3 a4 0 bm bl (code k)) where
      after_first : Formed (record_after r first)
      after_first = after-formed r f (translate_words first)

      -- the words and the state of a list from there
      words-from : {ws out : List ℕ} {t : ChannelState} → Gives c (on a1 a2 a3 a4 0 bm bl (code k)) ws out t → words_from (record_after r first) ws ≡ out
      words-from all = all.gives (record_after r first) after_first start

      entry-rules : EntryRules r g c first (control g c n2 v2) entry
      unfolding translator_after_all
      entry-rules =
          record {
            completed_by_38 = λ x y hx hy. words-from (hold bm bl x hx (complete bm bl x y hy));
            again_by_38 =
                λ x y z hx hy hz.
                words-from
                (hold bm bl x hx
                (said g c hg hc 38 y (omega arith) hy _ (entry g (x * 2 ^ 7 + y)) (first-38 rm rl nm nl bm bl g c k x y) (read g (x * 2 ^ 7 + y))
                (again bm bl x z hz)));
            no_value =
                λ y hy.
                words-from
                (silent g c hg hc n2 v2 hn hv (select 0 bm bl)
                (silent g c hg hc 38 y (omega arith) hy (none-38 rm rl nm nl bm bl g c k y) (ended c _)));
            completed_then_6 =
                λ x y z w hx hy hz hw.
                words-from
                (hold bm bl x hx
                (said g c hg hc 38 y (omega arith) hy _ (entry g (x * 2 ^ 7 + y)) (first-38 rm rl nm nl bm bl g c k x y) (read g (x * 2 ^ 7 + y))
                (silent g c hg hc 6 z (omega arith) hz (first-6 rm rl nm nl bm bl g c k (x + 1) z hz no-mcm) (complete bm bl z w hw))));
            completed_then_number =
                λ x y n v hx hy l h hv.
                words-from
                (hold bm bl x hx
                (said-last g c hg hc 38 y (omega arith) hy _ (entry g (x * 2 ^ 7 + y)) (first-38 rm rl nm nl bm bl g c k x y) (read g (x * 2 ^ 7 + y))
                (silent g c hg hc n v (omega arith) hv (half-after g c rm rl nm nl (x + 1) bm bl v k n l h _ refl) (ended c _))));
            completed_then_flushed =
                λ h x y hh hx hy.
                let q = record_after_all r (first ∷ control g c n2 v2 ∷ control g c 6 x ∷ control g c 38 y ∷ []) in
                let e : state_on q c ≡ waiting x bm bl (code k) = (hold bm bl x hx (complete bm bl x y hy)).leaves (record_after r first) after_first start in
                flush-answer q (all-formed r f (first ∷ control g c n2 v2 ∷ control g c 6 x ∷ control g c 38 y ∷ [])) h c hh hc
                ∙ rw (e, none-pending rm rl nm nl bm bl h c k (x + 1));
            ended_by_6 =
                λ x z w hx hz hw.
                words-from
                (hold bm bl x hx
                (said g c hg hc 6 z (omega arith) hz _ (entry g (x * 2 ^ 7)) (next-6 rm rl nm nl bm bl g c k x z hz no-mcm) (read g (x * 2 ^ 7))
                (complete bm bl z w hw)));
            ended_by_number =
                λ x n v hx l h hv.
                words-from
                (hold bm bl x hx
                (said-last g c hg hc n v (omega arith) hv _ (entry g (x * 2 ^ 7)) (number g c (waiting x bm bl (code-pending k)) n v l h) (read-pending bm bl g x) (ended c _)));
            flushed =
                λ h x hh hx.
                let q = record_after_all r (first ∷ control g c n2 v2 ∷ control g c 6 x ∷ []) in
                let e : state_on q c ≡ waiting x bm bl (code-pending k) = (hold bm bl x hx (ended c _)).leaves (record_after r first) after_first start in
                flush-answer q (all-formed r f (first ∷ control g c n2 v2 ∷ control g c 6 x ∷ [])) h c hh hc ∙ rw e (ap given (read-pending bm bl h x));
            flushed_once =
                λ h x hh hx.
                let q = record_after_all r (first ∷ control g c n2 v2 ∷ control g c 6 x ∷ []) in
                let e : state_on q c ≡ waiting x bm bl (code-pending k) = (hold bm bl x hx (ended c _)).leaves (record_after r first) after_first start in
                let o : Formed q = all-formed r f (first ∷ control g c n2 v2 ∷ control g c 6 x ∷ []) in
                flush-answer (flushed_record q h c) (after-formed q o (flush h c)) h c hh hc
                ∙ rw (flush-state q o h c hh hc, e, pending-sent rm rl nm nl bm bl k (x + 1), none-pending rm rl nm nl bm bl h c k (x + 1));
            flushed_then_38 =
                λ h x y hh hx hy.
                let q = record_after_all r (first ∷ control g c n2 v2 ∷ control g c 6 x ∷ []) in
                let e : state_on q c ≡ waiting x bm bl (code-pending k) = (hold bm bl x hx (ended c _)).leaves (record_after r first) after_first start in
                let o : Formed q = all-formed r f (first ∷ control g c n2 v2 ∷ control g c 6 x ∷ []) in
                (again bm bl x y hy).gives (flushed_record q h c) (after-formed q o (flush h c))
                (flush-state q o h c hh hc ∙ ap pending_sent e ∙ pending-sent rm rl nm nl bm bl k (x + 1));
            reset_then_38 =
                λ x v y z w hx hv hy hz hw.
                words-from
                (reset-after bm bl x v hx hv
                (said-last g c hg hc 38 y (omega arith) hy _ (entry g (x * 2 ^ 7)) (reset-38 rm rl nm nl bm bl g c k x y) (read g (x * 2 ^ 7))
                (null-entry g c hg hc k bm bl (x + 1) z w hz hw)));
            reset_then_6 =
                λ x v z w hx hv hz hw.
                words-from
                (reset-after bm bl x v hx hv
                (said-last g c hg hc 6 z (omega arith) hz _ (entry g (x * 2 ^ 7)) (reset-6 rm rl nm nl bm bl g c k x z hz) (read g (x * 2 ^ 7))
                (null-38 g c hg hc k bm bl z w hw)));
            reset_then_number =
                λ x v n u hx hv l h hu.
                words-from
                (reset-after bm bl x v hx hv
                (said-last g c hg hc n u (omega arith) hu _ (entry g (x * 2 ^ 7)) (number g c (waiting x bm bl (code-reset k)) n u l h) (read-reset bm bl g x) (ended c _)));
            reset_then_flushed =
                λ h x v hh hx hv.
                let q = record_after_all r (first ∷ control g c n2 v2 ∷ control g c 6 x ∷ control g c 121 v ∷ []) in
                let e : state_on q c ≡ waiting x bm bl (code-reset k) = (reset-after bm bl x v hx hv (ended c _)).leaves (record_after r first) after_first start in
                flush-answer q (all-formed r f (first ∷ control g c n2 v2 ∷ control g c 6 x ∷ control g c 121 v ∷ [])) h c hh hc ∙ rw e (ap given (read-reset bm bl h x));
            beside_bank =
                λ b x a p y hb hx ha hp hy.
                words-from
                (silent g c hg hc 0 b (omega arith) hb (held-0 g c (on a1 a2 a3 a4 0 bm bl (code k)) b hb)
                (hold (b + 1) 1 x hx
                (silent g c hg hc 32 a (omega arith) ha (held-32 g c (waiting x (b + 1) 1 (code-pending k)) a ha)
                (message g c 0xC p 0 (fits-C g c p hg hc hp) _ (first_word g 0xC c 0 1 ∷ (p * 2 ^ 24 + (b * 2 ^ 8 + a)) ∷ []) (with-bank g c (waiting x 0 0 (code-pending k)) p b a) refl
                (complete 0 0 x y hy)))));
          }

-- the first half of a number, from any state
module _ (p : ChannelState) (e : p.flags / 4 ≡ 0) where
  selected-101 : (v : ℕ) → v < 128
      → number_selected p 101 v ≡ on (v + 1) p.rpn_lsb p.nrpn_msb p.nrpn_lsb 0 p.bank_msb p.bank_lsb 1
  unfolding number_selected
  selected-101 v h = rw (mod-eq_of_lt h, e)

  selected-100 : (v : ℕ) → v < 128
      → number_selected p 100 v ≡ on p.rpn_msb (v + 1) p.nrpn_msb p.nrpn_lsb 0 p.bank_msb p.bank_lsb 1
  unfolding number_selected
  selected-100 v h = rw (mod-eq_of_lt h, e)

  selected-99 : (v : ℕ) → v < 128
      → number_selected p 99 v ≡ on p.rpn_msb p.rpn_lsb (v + 1) p.nrpn_lsb 0 p.bank_msb p.bank_lsb 2
  unfolding number_selected
  selected-99 v h = rw (mod-eq_of_lt h, e)

  selected-98 : (v : ℕ) → v < 128
      → number_selected p 98 v ≡ on p.rpn_msb p.rpn_lsb p.nrpn_msb (v + 1) 0 p.bank_msb p.bank_lsb 2
  unfolding number_selected
  selected-98 v h = rw (mod-eq_of_lt h, e)

-- a half with nothing pending, whichever kind was selected
code-alone : (k : Kind) → code k / 4 ≡ 0
code-alone none = refl
code-alone rpn = refl
code-alone nrpn = refl

module _ (g c rm rl nm nl d bm bl v : ℕ) (k : Kind) (h : v < 128) where
  second-101 : control_changed g c (on rm rl nm nl d bm bl (code k)) 101 v ≡ channel_step (on (v + 1) rl nm nl 0 bm bl 1) None
  second-101 = half-after g c rm rl nm nl d bm bl v k 101 (omega arith) (omega arith) _ (selected-101 _ (code-alone k) v h)

  second-100 : control_changed g c (on rm rl nm nl d bm bl (code k)) 100 v ≡ channel_step (on rm (v + 1) nm nl 0 bm bl 1) None
  second-100 = half-after g c rm rl nm nl d bm bl v k 100 (omega arith) (omega arith) _ (selected-100 _ (code-alone k) v h)

  second-99 : control_changed g c (on rm rl nm nl d bm bl (code k)) 99 v ≡ channel_step (on rm rl (v + 1) nl 0 bm bl 2) None
  second-99 = half-after g c rm rl nm nl d bm bl v k 99 (omega arith) (omega arith) _ (selected-99 _ (code-alone k) v h)

  second-98 : control_changed g c (on rm rl nm nl d bm bl (code k)) 98 v ≡ channel_step (on rm rl nm (v + 1) 0 bm bl 2) None
  second-98 = half-after g c rm rl nm nl d bm bl v k 98 (omega arith) (omega arith) _ (selected-98 _ (code-alone k) v h)

-- a number that is not null, and one that is not 0/6
module _ (m l : ℕ) where
  not-mcm : (McmNumber m l → ⊥) → (when eqb (m + 1) (held 0) then eqb (l + 1) (held 6) else false) ≡ false
  not-mcm n =
      by-test (eqb (m + 1) 1)
      (λ e.
      let i : m + 1 ≡ 1 = eqb-true (m + 1) 1 e in
      rw (e, ne_eqb (l + 1) 7 (λ j. n (omega arith, omega arith))))
      (λ e. rw e)

  sent-of : (NullNumber m l → ⊥) → (h o c v : ℕ)
      → controller_numbered h c o (m + 1) (l + 1) v ≡ word_pair (first_word h o c m l) (controller_data o l v)
  unfolding controller_numbered
  sent-of n h o c v =
      rw (some m, some l, back m, back l)
      (by-test (eqb (m + 1) 128)
      (λ e.
      let i : m + 1 ≡ 128 = eqb-true (m + 1) 128 e in
      rw (e, ne_eqb (l + 1) 128 (λ j. n (omega arith, omega arith))))
      (λ e. rw e))

-- 6 and 38 with a number
module _ (g c : ℕ) (hg : g < 16) (hc : c < 16) (m l x y : ℕ) (hx : x < 128) (hy : y < 128) where
  registered-sent : (NullNumber m l → ⊥) → (McmNumber m l → ⊥) → (nm nl bm bl : ℕ)
      → Gives c (on (m + 1) (l + 1) nm nl 0 bm bl 1) (control g c 6 x ∷ control g c 38 y ∷ []) (registered_words c m l g (x * 2 ^ 7 + y)) (on (m + 1) (l + 1) nm nl (x + 1) bm bl 1)
  registered-sent n o nm nl bm bl =
      silent g c hg hc 6 x (omega arith) hx (first-6 (m + 1) (l + 1) nm nl bm bl g c rpn 0 x hx (not-mcm m l o))
      (said-last g c hg hc 38 y (omega arith) hy _ (registered_words c m l g (x * 2 ^ 7 + y)) (first-38 (m + 1) (l + 1) nm nl bm bl g c rpn x y) (rw (sent-of m l n g 0x2 c (x * 2 ^ 7 + y))) (ended c _))

  assignable-sent : (NullNumber m l → ⊥) → (rm rl bm bl : ℕ)
      → Gives c (on rm rl (m + 1) (l + 1) 0 bm bl 2) (control g c 6 x ∷ control g c 38 y ∷ []) (assignable_words c m l g (x * 2 ^ 7 + y)) (on rm rl (m + 1) (l + 1) (x + 1) bm bl 2)
  assignable-sent n rm rl bm bl =
      silent g c hg hc 6 x (omega arith) hx (first-6 rm rl (m + 1) (l + 1) bm bl g c nrpn 0 x hx refl)
      (said-last g c hg hc 38 y (omega arith) hy _ (assignable_words c m l g (x * 2 ^ 7 + y)) (first-38 rm rl (m + 1) (l + 1) bm bl g c nrpn x y) (rw (sent-of m l n g 0x3 c (x * 2 ^ 7 + y))) (ended c _))

-- a state of which both numbers are null once what is pending is sent
record SentNull (s : ChannelState) : Type 0 where
  kind : Kind
  msb : ℕ
  bank-m : ℕ
  bank-l : ℕ
  is : pending_sent s ≡ nulled msb bank-m bank-l (code kind)

null-as : {s : ChannelState} {d bm bl : ℕ} (k : Kind) → pending_sent s ≡ nulled d bm bl (code k) → SentNull s
null-as {s} {d} {bm} {bl} k e = record { kind = k; msb = d; bank-m = bm; bank-l = bl; is = e }

-- after 121
resets : (rm rl nm nl d bm bl : ℕ) → Each (λ f. flags_allowed f ≡ true → SentNull (controllers_reset (on rm rl nm nl d bm bl f))) 16
unfolding controllers_reset pending_sent
resets rm rl nm nl d bm bl =
    nothing
    and (λ a. null-as none refl)
    and (λ a. null-as rpn refl)
    and (λ a. null-as nrpn refl)
    and (λ a. absurd (true≢false (sym a)))
    and (λ a. null-as none refl)
    and (λ a. null-as rpn refl)
    and (λ a. null-as nrpn refl)
    and (λ a. absurd (true≢false (sym a)))
    and (λ a. absurd (true≢false (sym a)))
    and (λ a. absurd (true≢false (sym a)))
    and (λ a. absurd (true≢false (sym a)))
    and (λ a. absurd (true≢false (sym a)))
    and (λ a. null-as none refl)
    and (λ a. null-as rpn refl)
    and (λ a. null-as nrpn refl)
    and (λ a. absurd (true≢false (sym a)))

-- and after `flush`, 38 or 6 besides
module _ (s : ChannelState) (z : SentNull s) where
  null-flushed : SentNull (pending_sent s)
  null-flushed = null-as z.kind (ap pending_sent z.is ∙ none-sent 128 128 128 128 _ _ z.kind _)

  null-completed : null_after_in s.flags ≡ false → completed s ≡ pending_sent s
  unfolding completed pending_sent
  null-completed e = by-test (pending_in s.flags) (λ p. rw (p, e)) (λ p. rw p)

  null-after-38 : (g c y : ℕ) → SentNull (control_changed g c s 38 y).state
  unfolding control_changed lsb_entered
  null-after-38 g c y =
      by-test (null_after_in s.flags)
      (λ e. rw e null-flushed)
      (λ e. rw e (of-both (λ (q : Stepped). SentNull q.state) (eqb s.data_msb 0) z (rw (null-completed e) null-flushed)))

  null-after-6 : (g c x : ℕ) → x < 128 → SentNull (control_changed g c s 6 x).state
  unfolding control_changed
  null-after-6 g c x h =
      let k = z.kind in
      let e : entry_held (pending_sent s) x ≡ nulled (x + 1) z.bank-m z.bank-l (code-pending k) =
      ap (λ q. entry_held q x) z.is ∙ entry-held 128 128 128 128 _ _ k _ x h in
      rw (e, entered (pending_words g c s) g c (nulled (x + 1) z.bank-m z.bank-l (code-pending k)) (mcm-of 128 128 128 128 _ _ k (x + 1) ∙ null-is-no-mcm k))
      (null-as k (pending-sent 128 128 128 128 _ _ k (x + 1)))

module _ (r : Midi1ToMidi2Group) (f : Formed r) (g c : ℕ) (hg : g < 16) (hc : c < 16) where
  abbrev before : ChannelState
  before = pending_sent (state_on r c)

  alone : before.flags / 4 ≡ 0
  alone = sent-kind (state_on r c) (on-allowed r f c hc)

  half : (n v : ℕ) → 98 ≤ n → n ≤ 101 → v < 128 → state_on (record_after r (control g c n v)) c ≡ number_selected before n v
  unfolding message_translated
  half n v l h hv =
      state-of r f g 0xB c n v (fits-B g c n v hg hc (omega arith) hv) ∙ ap (λ q. q.state) (number g c (state_on r c) n v l h)

  half-101 : (v : ℕ) → v < 128
      → state_on (record_after r (control g c 101 v)) c ≡ on (v + 1) before.rpn_lsb before.nrpn_msb before.nrpn_lsb 0 before.bank_msb before.bank_lsb 1
  half-101 v h = half 101 v (omega arith) (omega arith) h ∙ selected-101 before alone v h

  half-100 : (v : ℕ) → v < 128
      → state_on (record_after r (control g c 100 v)) c ≡ on before.rpn_msb (v + 1) before.nrpn_msb before.nrpn_lsb 0 before.bank_msb before.bank_lsb 1
  half-100 v h = half 100 v (omega arith) (omega arith) h ∙ selected-100 before alone v h

  half-99 : (v : ℕ) → v < 128
      → state_on (record_after r (control g c 99 v)) c ≡ on before.rpn_msb before.rpn_lsb (v + 1) before.nrpn_lsb 0 before.bank_msb before.bank_lsb 2
  half-99 v h = half 99 v (omega arith) (omega arith) h ∙ selected-99 before alone v h

  half-98 : (v : ℕ) → v < 128
      → state_on (record_after r (control g c 98 v)) c ≡ on before.rpn_msb before.rpn_lsb before.nrpn_msb (v + 1) 0 before.bank_msb before.bank_lsb 2
  half-98 v h = half 98 v (omega arith) (omega arith) h ∙ selected-98 before alone v h

  module _ (m l : ℕ) (hm : m < 128) (hl : l < 128) where
    pub registered-entries : (NullNumber m l → ⊥) → (McmNumber m l → ⊥) → EntryRules r g c (control g c 101 m) (control g c 100 l) (registered_words c m l)
    registered-entries n o =
        entry-rules g c hg hc rpn (m + 1) _ _ _ (m + 1) (l + 1) _ _ 100 l (omega arith) hl (λ d bm bl. second-100 g c _ _ _ _ d bm bl l rpn hl) (not-mcm m l o) _
        (λ h v. rw (sent-of m l n h 0x2 c v)) r f _ _ _ (half-101 m hm)

    pub registered-entries-lsb-first : (NullNumber m l → ⊥) → (McmNumber m l → ⊥) → EntryRules r g c (control g c 100 l) (control g c 101 m) (registered_words c m l)
    registered-entries-lsb-first n o =
        entry-rules g c hg hc rpn _ (l + 1) _ _ (m + 1) (l + 1) _ _ 101 m (omega arith) hm (λ d bm bl. second-101 g c _ _ _ _ d bm bl m rpn hm) (not-mcm m l o) _
        (λ h v. rw (sent-of m l n h 0x2 c v)) r f _ _ _ (half-100 l hl)

    pub assignable-entries : (NullNumber m l → ⊥) → EntryRules r g c (control g c 99 m) (control g c 98 l) (assignable_words c m l)
    assignable-entries n =
        entry-rules g c hg hc nrpn _ _ (m + 1) _ _ _ (m + 1) (l + 1) 98 l (omega arith) hl (λ d bm bl. second-98 g c _ _ _ _ d bm bl l nrpn hl) refl _
        (λ h v. rw (sent-of m l n h 0x3 c v)) r f _ _ _ (half-99 m hm)

    pub assignable-entries-lsb-first : (NullNumber m l → ⊥) → EntryRules r g c (control g c 98 l) (control g c 99 m) (assignable_words c m l)
    assignable-entries-lsb-first n =
        entry-rules g c hg hc nrpn _ _ _ (l + 1) _ _ (m + 1) (l + 1) 99 m (omega arith) hm (λ d bm bl. second-99 g c _ _ _ _ d bm bl m nrpn hm) refl _
        (λ h v. rw (sent-of m l n h 0x3 c v)) r f _ _ _ (half-98 l hl)

  pub registered-null-entries : EntryRules r g c (control g c 101 0x7F) (control g c 100 0x7F) (λ h v. [])
  unfolding controller_numbered
  registered-null-entries =
      entry-rules g c hg hc rpn 128 _ _ _ 128 128 _ _ 100 0x7F (omega arith) (omega arith) (λ d bm bl. second-100 g c _ _ _ _ d bm bl 0x7F rpn (omega arith)) refl _
      (λ h v. refl) r f _ _ _ (half-101 0x7F (omega arith))

  pub assignable-null-entries : EntryRules r g c (control g c 99 0x7F) (control g c 98 0x7F) (λ h v. [])
  unfolding controller_numbered
  assignable-null-entries =
      entry-rules g c hg hc nrpn _ _ 128 _ _ _ 128 128 98 0x7F (omega arith) (omega arith) (λ d bm bl. second-98 g c _ _ _ _ d bm bl 0x7F nrpn (omega arith)) refl _
      (λ h v. refl) r f _ _ _ (half-99 0x7F (omega arith))

  -- RPN 0/6, with nothing pending
  abbrev mcm-state : ℕ → ChannelState
  mcm-state d = on 1 7 before.nrpn_msb before.nrpn_lsb d before.bank_msb before.bank_lsb 1

  mcm-6 : (d x : ℕ) → x < 128 → control_changed g c (mcm-state d) 6 x ≡ channel_step (mcm-state (x + 1)) (controller_numbered g c 0x2 1 7 (x * 2 ^ 7))
  unfolding control_changed pending_words pending_sent entry_held entered_after mcm_selected controller
  mcm-6 d x h = rw (mod-eq_of_lt h, some x, back x, add-zero)

  mcm-read : (v : ℕ) → words_given (controller_numbered g c 0x2 1 7 v) ≡ registered_words c 0 6 g v
  unfolding controller_numbered
  mcm-read v = refl

  then-6 : {ws out : List ℕ} {t : ChannelState} (d x : ℕ) → x < 128 → Gives c (mcm-state (x + 1)) ws out t
      → Gives c (mcm-state d) (control g c 6 x ∷ ws) (registered_words c 0 6 g (x * 2 ^ 7) ++ out) t
  then-6 d x h rest = said g c hg hc 6 x (omega arith) h _ (registered_words c 0 6 g (x * 2 ^ 7)) (mcm-6 d x h) (mcm-read (x * 2 ^ 7)) rest

  module _ (first n2 v2 : ℕ) (hn : n2 < 128) (hv : v2 < 128) (s : ChannelState) (start : state_on (record_after r first) c ≡ s)
      (select : control_changed g c s n2 v2 ≡ channel_step (mcm-state 0) None)
    where
      mcm-list : {ws out : List ℕ} {t : ChannelState} → Gives c (mcm-state 0) ws out t → Gives c s (control g c n2 v2 ∷ ws) out t
      mcm-list rest = silent g c hg hc n2 v2 hn hv select rest

      mcm-rules : McmRules r g c first (control g c n2 v2)
      unfolding translator_after_all
      mcm-rules =
          let o = after-formed r f (translate_words first) in
          record {
            sent_at_once =
                λ x z hx hz. (mcm-list (then-6 0 x hx (then-6 (x + 1) z hz (ended c _)))).gives (record_after r first) o start;
            sent_again_by_38 =
                λ x y hx hy.
                (mcm-list
                (then-6 0 x hx
                (said-last g c hg hc 38 y (omega arith) hy _ (registered_words c 0 6 g (x * 2 ^ 7 + y)) (next-38 1 7 _ _ _ _ g c rpn x y) (mcm-read (x * 2 ^ 7 + y)) (ended c _)))
                ).gives (record_after r first) o start;
            not_pending =
                λ h x hh hx.
                let q = record_after_all r (first ∷ control g c n2 v2 ∷ control g c 6 x ∷ []) in
                let e : state_on q c ≡ mcm-state (x + 1) = (mcm-list (then-6 0 x hx (ended c _))).leaves (record_after r first) o start in
                flush-answer q (all-formed r f (first ∷ control g c n2 v2 ∷ control g c 6 x ∷ [])) h c hh hc
                ∙ rw (e, none-pending 1 7 before.nrpn_msb before.nrpn_lsb before.bank_msb before.bank_lsb h c rpn (x + 1));
          }

  pub mcm-entries : McmRules r g c (control g c 101 0) (control g c 100 6)
  mcm-entries =
      mcm-rules (control g c 101 0) 100 6 (omega arith) (omega arith) _ (half-101 0 (omega arith)) (second-100 g c _ _ _ _ _ _ _ 6 rpn (omega arith))

  pub mcm-entries-lsb-first : McmRules r g c (control g c 100 6) (control g c 101 0)
  mcm-entries-lsb-first =
      mcm-rules (control g c 100 6) 101 0 (omega arith) (omega arith) _ (half-100 6 (omega arith)) (second-101 g c _ _ _ _ _ _ _ 0 rpn (omega arith))

  -- 121 after `flush`
  kind-before : KindOf before.flags
  kind-before = at kinds before.flags (omega (arith, alone)) (sent-kept (state_on r c) (on-allowed r f c hc)).flags_of

  module _ (h v : ℕ) (hh : h < 16) (hv : v < 128) where
    after-reset : {ws out : List ℕ} {t : ChannelState}
        → Gives c (nulled before.data_msb before.bank_msb before.bank_lsb (code kind-before.kind)) ws out t
        → words_from (flushed_record r h c) (control g c 121 v ∷ ws) ≡ control_words g c 121 v ++ out
    after-reset rest =
        let i : before ≡ on before.rpn_msb before.rpn_lsb before.nrpn_msb before.nrpn_lsb before.data_msb before.bank_msb before.bank_lsb (code kind-before.kind) =
        λ j.
        on before.rpn_msb before.rpn_lsb before.nrpn_msb before.nrpn_lsb before.data_msb before.bank_msb before.bank_lsb (kind-before.is j) in
        (said g c hg hc 121 v (omega arith) hv _ (control_words g c 121 v)
        (ap (λ q. control_changed g c q 121 v) i ∙ reset-at-once _ _ _ _ _ _ g c kind-before.kind _ v) refl rest
        ).gives (flushed_record r h c) (after-formed r f (flush h c)) (flush-state r f h c hh hc)

    pub null-after-flush : (x y : ℕ) → x < 128 → y < 128
        → words_from (flushed_record r h c) (control g c 121 v ∷ control g c 6 x ∷ control g c 38 y ∷ []) ≡ control_words g c 121 v
    null-after-flush x y hx hy = after-reset (null-entry g c hg hc kind-before.kind _ _ _ x y hx hy)

    pub half-after-flush : (n u : ℕ) → 98 ≤ n → n ≤ 101 → u < 128
        → words_from (flushed_record r h c) (control g c 121 v ∷ control g c n u ∷ []) ≡ control_words g c 121 v
    half-after-flush n u l k hu =
        after-reset (silent g c hg hc n u (omega arith) hu (half-after g c 128 128 128 128 _ _ _ u kind-before.kind n l k _ refl) (ended c _))

  -- half a number where both are null
  null-rules : SentNull (state_on r c) → NullRules r g c
  null-rules z =
      let joined : (n u : ℕ) → 98 ≤ n → n ≤ 101 → u < 128 → (t : ChannelState) → number_selected (nulled z.msb z.bank-m z.bank-l (code z.kind)) n u ≡ t → state_on (record_after r (control g c n u)) c ≡ t =
      λ n u l h hu t e. half n u l h hu ∙ ap (λ s. number_selected s n u) z.is ∙ e in
      record {
        then_101 =
            λ m x y hm hx hy o.
            (registered-sent g c hg hc m 0x7F x y hx hy (λ e. o e.0) (λ e. omega (arith, e.1)) 128 128 _ _
            ).gives (record_after r (control g c 101 m)) (after-formed r f (translate_words (control g c 101 m)))
            (joined 101 m (omega arith) (omega arith) hm _ (selected-101 _ (code-alone z.kind) m hm));
        then_100 =
            λ l x y hl hx hy o.
            (registered-sent g c hg hc 0x7F l x y hx hy (λ e. o e.1) (λ e. omega (arith, e.0)) 128 128 _ _
            ).gives (record_after r (control g c 100 l)) (after-formed r f (translate_words (control g c 100 l)))
            (joined 100 l (omega arith) (omega arith) hl _ (selected-100 _ (code-alone z.kind) l hl));
        then_99 =
            λ m x y hm hx hy o.
            (assignable-sent g c hg hc m 0x7F x y hx hy (λ e. o e.0) 128 128 _ _
            ).gives (record_after r (control g c 99 m)) (after-formed r f (translate_words (control g c 99 m)))
            (joined 99 m (omega arith) (omega arith) hm _ (selected-99 _ (code-alone z.kind) m hm));
        then_98 =
            λ l x y hl hx hy o.
            (assignable-sent g c hg hc 0x7F l x y hx hy (λ e. o e.1) 128 128 _ _
            ).gives (record_after r (control g c 98 l)) (after-formed r f (translate_words (control g c 98 l)))
            (joined 98 l (omega arith) (omega arith) hl _ (selected-98 _ (code-alone z.kind) l hl));
      }

  -- 38 after half a number
  module _ (v y : ℕ) (hv : v < 128) (hy : y < 128) where
    abbrev NoMsb : ℕ → Type 0
    NoMsb n = words_from (record_after r (control g c n v)) (control g c 38 y ∷ []) ≡ []

    no-msb : (n : ℕ) (k : Kind) (rm rl nm nl bm bl : ℕ) → state_on (record_after r (control g c n v)) c ≡ on rm rl nm nl 0 bm bl (code k) → NoMsb n
    no-msb n k rm rl nm nl bm bl e =
        (silent g c hg hc 38 y (omega arith) hy (none-38 rm rl nm nl bm bl g c k y) (ended c _)
        ).gives (record_after r (control g c n v)) (after-formed r f (translate_words (control g c n v))) e

    no-msbs : Each (λ n. NoMsb (98 + n)) 4
    no-msbs =
        nothing
        and no-msb 98 nrpn _ _ _ _ _ _ (half-98 v hv)
        and no-msb 99 nrpn _ _ _ _ _ _ (half-99 v hv)
        and no-msb 100 rpn _ _ _ _ _ _ (half-100 v hv)
        and no-msb 101 rpn _ _ _ _ _ _ (half-101 v hv)

    pub msb-ended : (n : ℕ) → 98 ≤ n → n ≤ 101 → NoMsb n
    msb-ended n l h =
        let e : 98 + (n - 98) ≡ n = omega arith in
        rw e at (at no-msbs (n - 98) (omega arith))

  -- a number of each kind, and then half of the one before
  module _ (m l a b : ℕ) (hm : m < 128) (hl : l < 128) (ha : a < 128) (hb : b < 128) (k x y : ℕ) (hk : k < 128) (hx : x < 128) (hy : y < 128) where
    pub other-kept-registered : (NullNumber m k → ⊥) → (McmNumber m k → ⊥)
        → words_from (record_after_all r (control g c 101 m ∷ control g c 100 l ∷ control g c 99 a ∷ control g c 98 b ∷ []))
        (control g c 100 k ∷ control g c 6 x ∷ control g c 38 y ∷ [])
        ≡ registered_words c m k g (x * 2 ^ 7 + y)
    unfolding translator_after_all
    other-kept-registered n o =
        (silent g c hg hc 100 k (omega arith) hk (second-100 g c (m + 1) (l + 1) (a + 1) (b + 1) 0 before.bank_msb before.bank_lsb k nrpn hk)
        (registered-sent g c hg hc m k x y hx hy n o (a + 1) (b + 1) _ _)
        ).gives _ (all-formed r f (control g c 101 m ∷ control g c 100 l ∷ control g c 99 a ∷ control g c 98 b ∷ []))
        ((silent g c hg hc 100 l (omega arith) hl (second-100 g c _ _ _ _ _ _ _ l rpn hl)
        (silent g c hg hc 99 a (omega arith) ha (second-99 g c _ _ _ _ _ _ _ a rpn ha)
        (silent g c hg hc 98 b (omega arith) hb (second-98 g c _ _ _ _ _ _ _ b nrpn hb) (ended c _)))
        ).leaves (record_after r (control g c 101 m)) (after-formed r f (translate_words (control g c 101 m))) (half-101 m hm))

    pub other-kept-assignable : (NullNumber a k → ⊥)
        → words_from (record_after_all r (control g c 99 a ∷ control g c 98 b ∷ control g c 101 m ∷ control g c 100 l ∷ []))
        (control g c 98 k ∷ control g c 6 x ∷ control g c 38 y ∷ [])
        ≡ assignable_words c a k g (x * 2 ^ 7 + y)
    unfolding translator_after_all
    other-kept-assignable n =
        (silent g c hg hc 98 k (omega arith) hk (second-98 g c (m + 1) (l + 1) (a + 1) (b + 1) 0 before.bank_msb before.bank_lsb k rpn hk)
        (assignable-sent g c hg hc a k x y hx hy n (m + 1) (l + 1) _ _)
        ).gives _ (all-formed r f (control g c 99 a ∷ control g c 98 b ∷ control g c 101 m ∷ control g c 100 l ∷ []))
        ((silent g c hg hc 98 b (omega arith) hb (second-98 g c _ _ _ _ _ _ _ b nrpn hb)
        (silent g c hg hc 101 m (omega arith) hm (second-101 g c _ _ _ _ _ _ _ m nrpn hm)
        (silent g c hg hc 100 l (omega arith) hl (second-100 g c _ _ _ _ _ _ _ l rpn hl) (ended c _)))
        ).leaves (record_after r (control g c 99 a)) (after-formed r f (translate_words (control g c 99 a))) (half-99 a ha))

-- 121, and `flush`, 38 or 6 after it
module _ (r : Midi1ToMidi2Group) (f : Formed r) (g c v : ℕ) (hg : g < 16) (hc : c < 16) (hv : v < 128) where
  abbrev reset : Midi1ToMidi2Group
  reset = record_after r (control g c 121 v)

  reset-formed : Formed reset
  reset-formed = after-formed r f (translate_words (control g c 121 v))

  reset_null : SentNull (state_on reset c)
  unfolding message_translated control_changed
  reset_null =
      let a = (on-allowed r f c hc).flags_of in
      rw (state-of r f g 0xB c 121 v (fits-B g c 121 v hg hc (omega arith) hv)) (at (resets _ _ _ _ _ _ _) (state_on r c).flags (flags-lt (state_on r c).flags a) a)

  pub null-rules-reset : NullRules reset g c
  null-rules-reset = null-rules reset reset-formed g c hg hc reset_null

  then-control : (n u : ℕ) → n < 128 → u < 128 → SentNull (control_changed g c (state_on reset c) n u).state
      → NullRules (record_after_all r (control g c 121 v ∷ control g c n u ∷ [])) g c
  unfolding translator_after_all message_translated
  then-control n u hn hu z =
      null-rules (record_after reset (control g c n u)) (after-formed reset reset-formed (translate_words (control g c n u))) g c hg hc
      (rw (state-of reset reset-formed g 0xB c n u (fits-B g c n u hg hc hn hu)) z)

  pub null-rules-38 : (y : ℕ) → y < 128 → NullRules (record_after_all r (control g c 121 v ∷ control g c 38 y ∷ [])) g c
  null-rules-38 y h = then-control 38 y (omega arith) h (null-after-38 (state_on reset c) reset_null g c y)

  pub null-rules-6 : (x : ℕ) → x < 128 → NullRules (record_after_all r (control g c 121 v ∷ control g c 6 x ∷ [])) g c
  null-rules-6 x h = then-control 6 x (omega arith) h (null-after-6 (state_on reset c) reset_null g c x h)

  pub null-rules-flushed : (h : ℕ) → h < 16 → NullRules (flushed_record reset h c) g c
  null-rules-flushed h hh =
      null-rules (flushed_record reset h c) (after-formed reset reset-formed (flush h c)) g c hg hc
      (rw (flush-state reset reset-formed h c hh hc) (null-flushed (state_on reset c) reset_null))
