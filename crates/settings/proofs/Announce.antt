-- Group B: after Lower 7, Upper 7 and the two member counts of a legal layout, the zones are these, with default sensitivities and mode 3.
-- Assumes nothing.
use Prim.Native.Nat.{ℕ, ◌+◌, ◌-◌, ◌<◌, ◌≤◌}
use mathlib.Core.Path.{◌≡◌, refl, ap, sym, ◌∙◌, subst}
use mathlib.Core.Bool.{true, false}
use mathlib.Core.List.{List, [], ◌∷◌, ◌++◌}
use mathlib.Core.Logic.{⊎_elim}
use native.Mathlib.Omega.{arith}
use lib.Dec.{ltb, leb, eqb}
use lib.ListN.{length}
use borrow.Author.Tests.{le-ltb, lt-leb, eqb-false}
use Rattle.ump.specs.Controller.{rpn_numbered}
use Rattle.ump.proofs.Cases.{by-test}
use Rattle.std.specs.Prelude.{Some}
use Rattle.parameters.specs.State.{number, with_rpn}
use Rattle.mpe_layout.specs.declared.MpeZone.{MpeZone}
use Rattle.mpe_layout.specs.declared.MpeZone.TheVariants.{Lower, Upper}
use Rattle.mpe_layout.specs.declared.MpeLayout.{MpeLayout}
use Rattle.mpe_layout.specs.Layout.{layout_of, legal, manager_of, left_beside, with_mcm}
use Rattle.mpe_layout.proofs.Legal.{Bounds, sides, legal-bounds}
use Rattle.mpe_pitch.specs.declared.MpeSensitivity.{MpeSensitivity}
use Rattle.mpe_pitch.specs.Pitch.{manager_default, member_default}
use Rattle.mpe_zones.specs.declared.Zones.{Zones}
use Rattle.mpe_zones.specs.Zones.{activated, with_announced, zones_announced}
use Rattle.mpe_event.specs.Update.{announced}
use Rattle.mpe_receiver.specs.declared.MpeReceiver.{MpeReceiver}
use Rattle.mpe_receiver.specs.State.{zones_of}
use Rattle.mpe_receiver.specs.Receive.{stored, with_update, received_by_fields}
use Rattle.mpe_sender.proofs.Zones.{manager-lt}
use Rattle.receiving_end.specs.declared.end.End.{End}
use Rattle.byte_reader.specs.Reader.{reader_at}
use Rattle.receiving_end.specs.End.{with_reader, with_receiver, with_parameter, parameter_at}
use Rattle.receiving_end.specs.Lists.{after_bytes}
use Rattle.receiving_end.proofs.Parts.{status_of}
use Rattle.receiving_end.proofs.Numbers.{entry_of, entry_read}
use Rattle.settings.specs.Messages.{announcement, announcements, bytes}
use Rattle.settings.proofs.Bytes.{group-bytes}
use Rattle.settings.proofs.Received.{received-all, received-append, bytes-formed}
use Rattle.settings.proofs.Stage.{cleared-with, zones_at, Stage, stage_at}

-- RPN 6 with a data entry on a manager announces its zone
announces : (r : MpeReceiver) (zone : MpeZone) (v : ℕ) → received_by_fields r (Some (entry_of 6 v)) 0xB (manager_of zone) 6 v ≡ with_update r (announced (zones_of r) zone v)
unfolding received_by_fields stored rpn_numbered
announces r Lower v = refl
announces r Upper v = refl

announced-zones : (z : Zones) (zone : MpeZone) (v : ℕ) → legal z.layout ≡ true → v ≤ 15 → zones_announced z zone v ≡ with_announced z zone v
unfolding zones_announced
announced-zones z zone v h b = rw (le-ltb 15 v b, h)

-- one announcement on the way
pub announced-stage : {z : Zones} (e : End) (zone : MpeZone) (v : ℕ) → v ≤ 15 → Stage z e → Stage (with_announced z zone v) (received-all e (announcement zone v))
announced-stage e zone v b s =
    let k = manager_of zone in
    let hk = manager-lt zone in
    let f = s.formed in
    let c = s.cleared k hk in
    stage_at e (received-all e (announcement zone v)) k (reader_at (status_of 0xB k) 0x80) (with_rpn (parameter_at e k) (number 0 6)) (with_update e.receiver (announced (zones_of e.receiver) zone v)).receiver s
    (bytes-formed e (bytes (announcement zone v)) f)
    (ap (after_bytes e) (group-bytes k 6 v hk (omega arith) (omega arith))
    ∙ entry_read e k 6 v hk (omega arith) (omega arith) f.channels c.rpn-on refl
    ∙ ap (λ h. with_receiver (with_parameter (with_reader e (reader_at (status_of 0xB k) 0x80)) k (with_rpn (parameter_at e k) (number 0 6))) h.receiver) (announces e.receiver zone v))
    (cleared-with (parameter_at e k) (number 0 6) c)
    (announced-zones (zones_of e.receiver) zone v f.receiver_formed.lawful b ∙ ap (λ y. with_announced y zone v) s.zones)

-- the sensitivities of Lower's manager and members and of Upper's, as the zones hold them
abbrev pub slots : MpeSensitivity → MpeSensitivity → MpeSensitivity → MpeSensitivity → List ℕ
slots a b c d =
    a.semitones ∷ a.cents ∷ b.semitones ∷ b.cents ∷ c.semitones ∷ c.cents ∷ d.semitones ∷ d.cents ∷ []

-- both zones with their defaults
abbrev pub default_zones : MpeLayout → Zones
default_zones l = zones_at l false false (slots manager_default member_default manager_default member_default)

-- whatever they were
both-active : (z : Zones) (l : List ℕ) → length l ≡ 8
    → with_announced (with_announced (zones_at z.layout z.lower_mono z.upper_mono l) Lower 7) Upper 7 ≡ default_zones (layout_of 7 7)
unfolding activated with_mcm left_beside
both-active z [] h = absurd (omega arith)
both-active z (a ∷ []) h = absurd (omega arith)
both-active z (a ∷ b ∷ []) h = absurd (omega arith)
both-active z (a ∷ b ∷ c ∷ []) h = absurd (omega arith)
both-active z (a ∷ b ∷ c ∷ d ∷ []) h = absurd (omega arith)
both-active z (a ∷ b ∷ c ∷ d ∷ e ∷ []) h = absurd (omega arith)
both-active z (a ∷ b ∷ c ∷ d ∷ e ∷ f ∷ []) h = absurd (omega arith)
both-active z (a ∷ b ∷ c ∷ d ∷ e ∷ f ∷ g ∷ []) h = absurd (omega arith)
both-active z (a ∷ b ∷ c ∷ d ∷ e ∷ f ∷ g ∷ i ∷ []) h = refl
both-active z (a ∷ b ∷ c ∷ d ∷ e ∷ f ∷ g ∷ i ∷ j ∷ l) h = absurd (omega arith)

-- zones with their defaults keep them
defaults-stay : (l : MpeLayout) (zone : MpeZone) (v : ℕ) → with_announced (default_zones l) zone v ≡ default_zones (with_mcm l zone v)
unfolding activated
defaults-stay l Lower v = by-test (ltb 0 v) (λ e. rw e) (λ e. rw e)
defaults-stay l Upper v = by-test (ltb 0 v) (λ e. rw e) (λ e. rw e)

-- a zone keeps the members that a legal layout gives it beside the other
left-kept : (members other : ℕ) → Bounds other members → left_beside members other ≡ other
unfolding left_beside
left-kept members other b =
    by-test (eqb members 0)
    (λ e. rw e)
    (λ e. rw e
    (let some : members ≡ 0 → ⊥ = eqb-false members 0 e in
    ⊎_elim
    (λ (p : 0 < other).
    let both : other + members ≤ 14 = b.in_both p (omega arith) in
    rw (lt-leb 14 members (omega arith), le-ltb (14 - members) other (omega arith)))
    (λ (p : other ≤ 0).
    let z : other ≡ 0 = omega arith in
    by-test (leb 14 members) (λ f. rw (f, z)) (λ f. rw (f, le-ltb (14 - members) other (omega arith))))
    (sides 0 other)))

restated-layout : (l : MpeLayout) → legal l ≡ true → with_mcm (with_mcm (layout_of 7 7) Lower l.lower) Upper l.upper ≡ l
unfolding with_mcm
restated-layout l h =
    let b = legal-bounds l h in
    rw (le-ltb 15 l.lower b.in-lower, le-ltb 15 l.upper b.in-upper, left-kept l.upper l.lower b)

-- all four
pub announcements-stage : {z : Zones} (e : End) (l : MpeLayout) → legal l ≡ true → Stage z e → Stage (default_zones l) (received-all e (announcements l))
announcements-stage {z} e l h s =
    let b = legal-bounds l h in
    let s1 = announced-stage e Lower 7 (omega arith) s in
    let s2 = announced-stage _ Upper 7 (omega arith) s1 in
    let s3 = announced-stage _ Lower l.lower b.in-lower s2 in
    let s4 = announced-stage _ Upper l.upper b.in-upper s3 in
    let known : with_announced (with_announced z Lower 7) Upper 7 ≡ default_zones (layout_of 7 7) =
    ap (λ y. with_announced (with_announced y Lower 7) Upper 7) (sym s.zones)
    ∙ both-active (zones_of e.receiver) e.receiver.sensitivity s.formed.receiver_formed.sensitivities in
    let end_after : received-all e (announcements l) ≡ received-all (received-all (received-all (received-all e (announcement Lower 7)) (announcement Upper 7)) (announcement Lower l.lower)) (announcement Upper l.upper) =
    received-append e (announcement Lower 7 ++ announcement Upper 7 ++ announcement Lower l.lower) (announcement Upper l.upper)
    ∙ ap (λ x. received-all x (announcement Upper l.upper))
    (received-append e (announcement Lower 7 ++ announcement Upper 7) (announcement Lower l.lower)
    ∙ ap (λ x. received-all x (announcement Lower l.lower)) (received-append e (announcement Lower 7) (announcement Upper 7))) in
    subst (λ x. Stage (default_zones l) x) (sym end_after)
    (subst (λ y. Stage y (received-all (received-all (received-all (received-all e (announcement Lower 7)) (announcement Upper 7)) (announcement Lower l.lower)) (announcement Upper l.upper)))
    (ap (λ y. with_announced (with_announced y Lower l.lower) Upper l.upper) known
    ∙ ap (λ y. with_announced y Upper l.upper) (defaults-stay (layout_of 7 7) Lower l.lower)
    ∙ defaults-stay (with_mcm (layout_of 7 7) Lower l.lower) Upper l.upper
    ∙ ap default_zones (restated-layout l h))
    s4)
