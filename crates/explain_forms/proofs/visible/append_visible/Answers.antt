use Rattle.explain_forms.proofs.visible.append_visible.Goals as goal

pub returns-then-is_plain : goal.returns-then-is_plain
returns-then-is_plain c = (_, c.is_plain.ensures c.if-is_plain.true, c.append_chunk.ensures)
