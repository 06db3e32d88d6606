-- What reading a table says in document 01's words is said of one value alone: a refusal is told by its number and place. Assumes nothing.
use mathlib.Core.Path.{◌≡◌, refl, ap}
use Rattle.limit.specs.Limit.{number_of}
use Rattle.std.specs.Prelude.{Ok, Err}
use Rattle.limit.proofs.Numbers.{refusals_differ}
use Rattle.table.specs.Reader.{SaidDetermines, ToldDetermines, Told}

pub said_determines : SaidDetermines
said_determines (Ok u) (Ok w) e = refl
said_determines (Ok u) (Err s) e = cc e
said_determines (Err r) (Ok w) e = cc e
said_determines (Err r) (Err s) e =
    let n : number_of r.limit ≡ number_of s.limit = cc e in
    let p : r.place.0 ≡ s.place.0 = cc e in
    ap Err (refusals_differ r s n p)

pub told_determines : ToldDetermines
told_determines (Ok t) (Ok u) e = ap Ok (ap (λ (x : Told). x.table) e)
told_determines (Ok t) (Err s) e = cc (ap (λ (x : Told). x.said) e)
told_determines (Err r) (Ok u) e = cc (ap (λ (x : Told). x.said) e)
told_determines (Err r) (Err s) e =
    let n : number_of r.limit ≡ number_of s.limit = cc (ap (λ (x : Told). x.said) e) in
    let p : r.place.0 ≡ s.place.0 = cc (ap (λ (x : Told). x.said) e) in
    ap Err (refusals_differ r s n p)
