-- The rules over lists of messages hold of the definitions: what `translate_words` promises.
-- Assumes nothing.
use Rattle.translate_state.specs.declared.Midi1ToMidi2Group.{Midi1ToMidi2Group}
use Rattle.translate_state.specs.State.{new_record}
use Rattle.translate.specs.Lists.{Formed}
use Rattle.translate.specs.Rules.{NoNumberRules, TranslatedByRules}
use Rattle.translate.proofs.Entries.{registered-entries, registered-entries-lsb-first, assignable-entries, assignable-entries-lsb-first, registered-null-entries, assignable-null-entries, mcm-entries, mcm-entries-lsb-first, null-after-flush, half-after-flush, null-rules-reset, null-rules-38, null-rules-6, null-rules-flushed, msb-ended, other-kept-registered, other-kept-assignable, without-number, with-half}
use Rattle.translate.proofs.Exact.{exactly-accepted}
use Rattle.translate.proofs.Refused.{others-refused}
use Rattle.translate.proofs.Passing.{passing-rules, bank-rules, others_kept, others-kept-flushed, same-record}

pub translated-by-rules : (r : Midi1ToMidi2Group) → Formed r → TranslatedByRules r
translated-by-rules r f =
    record {
      passing = λ g c hg hc. passing-rules r f g c hg hc;
      banks = λ g c hg hc. bank-rules r f g c hg hc;
      registered = λ g c m l hg hc hm hl n o. registered-entries r f g c hg hc m l hm hl n o;
      registered_lsb_first = λ g c m l hg hc hm hl n o. registered-entries-lsb-first r f g c hg hc m l hm hl n o;
      assignable = λ g c m l hg hc hm hl n. assignable-entries r f g c hg hc m l hm hl n;
      assignable_lsb_first = λ g c m l hg hc hm hl n. assignable-entries-lsb-first r f g c hg hc m l hm hl n;
      registered_null = λ g c hg hc. registered-null-entries r f g c hg hc;
      assignable_null = λ g c hg hc. assignable-null-entries r f g c hg hc;
      mcm = λ g c hg hc. mcm-entries r f g c hg hc;
      mcm_lsb_first = λ g c hg hc. mcm-entries-lsb-first r f g c hg hc;
      reset_null = λ g h c v x y hg hh hc hv hx hy. null-after-flush r f g c hg hc h v hh hv x y hx hy;
      reset_then_half = λ g h c v n u hg hh hc hv l k hu. half-after-flush r f g c hg hc h v hh hv n u l k hu;
      reset_numbers = λ g c v hg hc hv. null-rules-reset r f g c v hg hc hv;
      reset_numbers_38 = λ g c v y hg hc hv hy. null-rules-38 r f g c v hg hc hv y hy;
      reset_numbers_6 = λ g c v x hg hc hv hx. null-rules-6 r f g c v hg hc hv x hx;
      reset_numbers_flushed = λ g h c v hg hh hc hv. null-rules-flushed r f g c v hg hc hv h hh;
      number_ends_msb = λ g c n v y hg hc l h hv hy. msb-ended r f g c hg hc v y hv hy n l h;
      registered_kept =
          λ g c m l a b k x y hg hc hm hl ha hb hk hx hy n o. other-kept-registered r f g c hg hc m l a b hm hl ha hb k x y hk hx hy n o;
      assignable_kept =
          λ g c a b m l k x y hg hc ha hb hm hl hk hx hy n. other-kept-assignable r f g c hg hc m l a b hm hl ha hb k x y hk hx hy n;
      other_channels = λ w d n. others_kept r f w d n;
      other_channels_flushed = λ h c d n. others-kept-flushed r f h c d n;
      any_group = λ g h o c a b hg hh ho hc ha hb. same-record r f g h o c a b hg hh ho hc ha hb;
    }

pub no-number-rules : NoNumberRules new_record
no-number-rules =
    record {
      no_number = λ g c x y hg hc hx hy. without-number g c x y hg hc hx hy;
      half_number = λ g c n v x y hg hc l h hv hx hy. with-half g c x y hg hc hx hy v hv n l h;
    }

-- what `translate_words` promises of lists of messages
pub ruleset promised = (exactly-accepted, others-refused, translated-by-rules, no-number-rules)
