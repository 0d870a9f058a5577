use Rattle.std.proofs.Common.{◌≡◌, ℕ, List, ◌∷◌, [], ◌++◌, ap, sym, subst, ◌∙◌, codes}
use Rattle.std.specs.Prelude.{OnOk, OnErr}
use Rattle.lfg_io.specs.Sink.{Appends, AppendsPrefix}
use Rattle.lfg_model.specs.Output.{fault_line}
use Rattle.xle_run.proofs.report.put_fault_line.Goals as goal

-- the line for a file with this name
abbrev line_of : List ℕ → List ℕ
line_of name = codes "xle: " ++ (codes "cannot read " ++ name) ++ 10 ∷ []

-- the line for a file with this name that is too long
abbrev long_line : List ℕ → List ℕ
long_line name = codes "xle: " ++ (codes "too long: " ++ name) ++ 10 ∷ []

pub returns-in-ReadFault-clause-appended : goal.returns-in-ReadFault-clause-appended
returns-in-ReadFault-clause-appended g c words =
    let name : c.as_bytes.result.now ≡ c.in-ReadFault.name = c.as_bytes.ensures.value ∙ c.text.ensures in
    let line : fault_line words c.args.status.now ≡ line_of c.as_bytes.result.now = ap (fault_line words) c.in-ReadFault.is ∙ ap line_of (sym name) in
    subst (λ bytes. OnOk c.put_pieces-in-ReadFault.result (Appends (g.E.Sink.written c.args.err.now) (g.E.Sink.written c.put_pieces-in-ReadFault.new.out) bytes)) (sym line)
    c.put_pieces-in-ReadFault.ensures.appended

pub returns-in-ReadFault-clause-cut : goal.returns-in-ReadFault-clause-cut
returns-in-ReadFault-clause-cut g c words =
    let name : c.as_bytes.result.now ≡ c.in-ReadFault.name = c.as_bytes.ensures.value ∙ c.text.ensures in
    let line : fault_line words c.args.status.now ≡ line_of c.as_bytes.result.now = ap (fault_line words) c.in-ReadFault.is ∙ ap line_of (sym name) in
    subst (λ bytes. OnErr c.put_pieces-in-ReadFault.result (AppendsPrefix (g.E.Sink.written c.args.err.now) (g.E.Sink.written c.put_pieces-in-ReadFault.new.out) bytes)) (sym line)
    c.put_pieces-in-ReadFault.ensures.cut

pub returns-in-FileTooLong-clause-appended : goal.returns-in-FileTooLong-clause-appended
returns-in-FileTooLong-clause-appended g c words =
    let name : c.as_bytes-in-FileTooLong.result.now ≡ c.in-FileTooLong.name = c.as_bytes-in-FileTooLong.ensures.value ∙ c.text-in-FileTooLong.ensures in
    let line : fault_line words c.args.status.now ≡ long_line c.as_bytes-in-FileTooLong.result.now = ap (fault_line words) c.in-FileTooLong.is ∙ ap long_line (sym name) in
    subst (λ bytes. OnOk c.put_pieces-in-FileTooLong.result (Appends (g.E.Sink.written c.args.err.now) (g.E.Sink.written c.put_pieces-in-FileTooLong.new.out) bytes)) (sym line)
    c.put_pieces-in-FileTooLong.ensures.appended

pub returns-in-FileTooLong-clause-cut : goal.returns-in-FileTooLong-clause-cut
returns-in-FileTooLong-clause-cut g c words =
    let name : c.as_bytes-in-FileTooLong.result.now ≡ c.in-FileTooLong.name = c.as_bytes-in-FileTooLong.ensures.value ∙ c.text-in-FileTooLong.ensures in
    let line : fault_line words c.args.status.now ≡ long_line c.as_bytes-in-FileTooLong.result.now = ap (fault_line words) c.in-FileTooLong.is ∙ ap long_line (sym name) in
    subst (λ bytes. OnErr c.put_pieces-in-FileTooLong.result (AppendsPrefix (g.E.Sink.written c.args.err.now) (g.E.Sink.written c.put_pieces-in-FileTooLong.new.out) bytes)) (sym line)
    c.put_pieces-in-FileTooLong.ensures.cut
