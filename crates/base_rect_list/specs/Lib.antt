-- What a reader must believe of boxes listed in lent space: which words a list of boxes leaves there, whether or not they fit.
pub mod Rects
