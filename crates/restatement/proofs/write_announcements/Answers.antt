-- `restatement::write_announcements` meets its contract: four announcements, one after the other.
use Rattle.std.proofs.Common.{◌≡◌, ◌+◌, ◌++◌, refl, ap, ◌∙◌, arith}
use Rattle.std.proofs.lemmas.List.Edits.{sets}
use Rattle.mpe_layout.specs.declared.MpeZone.TheVariants.{Lower, Upper}
use Rattle.mpe_layout.proofs.Legal.{members-le}
use Rattle.settings.specs.Messages.{announcement}
use Rattle.restatement.proofs.Sets.{chain}
use Rattle.restatement.proofs.Made.{is-ok, value-of, announcement-made}
use Rattle.restatement.proofs.write_announcements.Goals as goal

pub unwrap-requires : goal.unwrap-requires
unwrap-requires c = is-ok _ _ (c.mcm_messages.ensures ∙ announcement-made Lower 7 (omega arith))

pub unwrap-requires-2 : goal.unwrap-requires-2
unwrap-requires-2 c = is-ok _ _ (c.mcm_messages-2.ensures ∙ announcement-made Upper 7 (omega arith))

pub unwrap-lower-requires : goal.unwrap-lower-requires
unwrap-lower-requires c = let l = c.args.layout in
    is-ok _ _ (c.mcm_messages-3.ensures ∙ announcement-made Lower l.lower (members-le l Lower c.requires.1))

pub unwrap-upper-requires : goal.unwrap-upper-requires
unwrap-upper-requires c = let l = c.args.layout in
    is-ok _ _ (c.mcm_messages-4.ensures ∙ announcement-made Upper l.upper (members-le l Upper c.requires.1))

pub returns : goal.returns
returns c = let o = c.args.out.now in
    let at = c.args.at in
    let l = c.args.layout in
    let h = c.requires.1 in
    let w1 = value-of _ _ _ (c.mcm_messages.ensures ∙ announcement-made Lower 7 (omega arith)) c.unwrap.ensures in
    let w2 = value-of _ _ _ (c.mcm_messages-2.ensures ∙ announcement-made Upper 7 (omega arith)) c.unwrap-2.ensures in
    let w3 = value-of _ _ _ (c.mcm_messages-3.ensures ∙ announcement-made Lower l.lower (members-le l Lower h)) c.unwrap-lower.ensures in
    let w4 = value-of _ _ _ (c.mcm_messages-4.ensures ∙ announcement-made Upper l.upper (members-le l Upper h)) c.unwrap-upper.ensures in
    let e1 : c.put.new.out ≡ sets o at (announcement Lower 7) = c.put.ensures.buffer ∙ ap (λ m. sets o at m) w1 in
    let e2 : c.put-2.new.out ≡ sets c.put.new.out (at + 3) (announcement Upper 7) = c.put-2.ensures.buffer ∙ ap (λ m. sets c.put.new.out (at + 3) m) w2 in
    let e3 : c.put-3.new.out ≡ sets c.put-2.new.out (at + 6) (announcement Lower l.lower) = c.put-3.ensures.buffer ∙ ap (λ m. sets c.put-2.new.out (at + 6) m) w3 in
    let e4 : c.put-4.new.out ≡ sets c.put-3.new.out (at + 9) (announcement Upper l.upper) = c.put-4.ensures.buffer ∙ ap (λ m. sets c.put-3.new.out (at + 9) m) w4 in
    let t2 = chain o at (announcement Lower 7) (announcement Upper 7) (at + 3) e1 refl e2 in
    let t3 = chain o at (announcement Lower 7 ++ announcement Upper 7) (announcement Lower l.lower) (at + 6) t2 refl e3 in
    chain o at (announcement Lower 7 ++ announcement Upper 7 ++ announcement Lower l.lower) (announcement Upper l.upper) (at + 9) t3 refl e4
