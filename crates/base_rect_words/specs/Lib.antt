-- What a reader must believe of boxes in lent space: "A box is x0, y0, x1, y1", four words in this order.
pub mod Words
